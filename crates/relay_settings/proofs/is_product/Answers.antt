-- `relay_settings::is_product` meets its contract. A number with a rest is no product. Assumes nothing.
use mathlib.Core.Path.{sym, ap, ◌∙◌}
use Prim.Native.Nat.{◌%◌}
use native.Mathlib.Nat.{mul-mod_right}
use borrow.Author.Tests.{ne_eqb}
use Rattle.relay_settings.proofs.is_product.Goals as goal

pub returns-else-n-a-eq0 : goal.returns-else-n-a-eq0
returns-else-n-a-eq0 c =
    ne_eqb _ _ c.if-n-a-eq0.false ∙ sym (ne_eqb _ _ (λ q. c.if-n-a-eq0.false (ap (λ x. x % c.args.a) q ∙ mul-mod_right c.args.a c.args.b)))

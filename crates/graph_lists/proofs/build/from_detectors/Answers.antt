-- `graph_lists::build::from_detectors` meets its contract. The first pass writes the check lists of the graph, which are all that the second asks. Assumes nothing.
use mathlib.Core.List.{List, ◌++◌}
use mathlib.Core.Path.{◌≡◌, sym, ◌∙◌}
use Prim.Native.Nat.{ℕ}
use native.Mathlib.Omega.{arith}
use lib.ListN.{length, length-append}
use Rattle.graph_lists.specs.Graph.{among}
use Rattle.graph_lists.proofs.Built.{second_pass, second_valid, first_pass}
use Rattle.graph_lists.proofs.build.from_detectors.Goals as goal

-- a list behind no part of it has its length
behind_none : (xs ys : List ℕ) (n : ℕ) → length xs ≡ 0 → length ys ≡ n → length (xs ++ ys) ≡ n
behind_none xs ys n e h = length-append xs ys ∙ omega arith

pub bucket-requires-2 : goal.bucket-requires-2
bucket-requires-2 c =
    let l = c.bucket.auto.row_at ∙ c.requires.check_var_len.0 in
    let f = first_pass c.args.checks c.args.mechanisms c.args.off.now c.args.dets.now c.requires.valid _ _ _ c.bucket.ensures in
    let s = second_valid c.args.checks c.args.mechanisms (among c.args.off.now c.args.dets.now) _ _ f.0 f.1 in
    record { offsets = s.0; keys = s.1; rows_bound = (c.requires.checks_bound.0, omega (arith, l, c.requires.checks_bound.2)); next_len = (c.requires.var_check_len.2, c.requires.var_check_len.0 ∙ sym l) }

pub returns : goal.returns
returns c =
    let f = first_pass c.args.checks c.args.mechanisms c.args.off.now c.args.dets.now c.requires.valid _ _ _ c.bucket.ensures in
    let l = c.bucket.auto.row_at ∙ c.requires.check_var_len.0 in
    let many = c.bucket-2.auto.place_at ∙ behind_none c.bucket.new.place_at c.args.var_message.now _ c.bucket.auto.place_at c.requires.var_check_len.1 ∙ sym l in
    second_pass c.args.checks c.args.mechanisms (among c.args.off.now c.args.dets.now) _ _ _ _ _ many f.0 f.1 c.bucket-2.ensures

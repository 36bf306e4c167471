-- A text that is written part by part at the front of a list. Assumes nothing.
use mathlib.Core.Path.{◌≡◌, refl, sym, ap, ◌∙◌}
use mathlib.Core.List.{List, [], ◌∷◌, ◌++◌, append_assoc, append-nil, map, map-append}
use Prim.Native.Nat.{ℕ, zero, suc, ◌+◌, ◌-◌, ◌/◌, ◌%◌, ◌<◌, ◌≤◌}
use native.Mathlib.Numerals.{add-one}
use native.Mathlib.Omega.{arith}
use lib.ListN.{length, get_or, set, take, drop, take-append-drop}
use lib.Seq.{take-suc-set, take-suc, drop-set-lt, drop-drop, length-take-le}
use borrow.Author.Tests.{lt-ltb, le-ltb}
use borrow.Rule.Slice.PartMut.{put_mid}
use Rattle.std.proofs.lemmas.Slice.{take-put_mid, drop-put_mid}
use Rattle.numbers.specs.Loops.{over}
use Rattle.stream_lines.specs.Lines.{digits, space, bit_digit, bits_after}
use Rattle.stream_lines.specs.Writing.{Put}

-- ---- parts

-- lists that end alike from a on end alike from b on
drop_on : (x y : List ℕ) (a b : ℕ) → a ≤ b → drop a x ≡ drop a y → drop b x ≡ drop b y
drop_on x y a b h e =
    let j : a + (b - a) ≡ b = omega arith in
    ap (λ k. drop k x) (sym j) ∙ sym (drop-drop (b - a) a x) ∙ ap (drop (b - a)) e ∙ drop-drop (b - a) a y ∙ ap (λ k. drop k y) j

-- nothing
pub nothing : (old : List ℕ) (at : ℕ) → Put [] old at old at
nothing old at = record { front = sym (append-nil (take at old)); rest = refl; on = omega arith }

-- another name for the text
pub retext : (v w old new : List ℕ) (at r : ℕ) → v ≡ w → Put v old at new r → Put w old at new r
retext v w old new at r e p = record { front = p.front ∙ ap (λ t. take at old ++ t) e; rest = p.rest; on = p.on }

-- one text, and another behind it
pub then : (v w old mid new : List ℕ) (at r s : ℕ) → Put v old at mid r → Put w mid r new s → Put (v ++ w) old at new s
then v w old mid new at r s p q =
    record {
      front = q.front ∙ ap (λ t. t ++ w) p.front ∙ append_assoc (take at old) v w;
      rest = q.rest ∙ drop_on mid old r s q.on p.rest;
      on = omega (arith, p.on, q.on);
    }

-- a whole line
pub line : (w old new : List ℕ) (r : ℕ) → Put w old 0 new r → r ≤ length old → length new ≡ length old → (r ≡ length w) × (new ≡ over w old)
line w old new r p h e =
    let l : r ≡ length w = sym (length-take-le r new (omega arith)) ∙ ap length p.front in
    (l, sym (take-append-drop r new) ∙ ap (λ t. t ++ drop r new) p.front ∙ ap (λ t. w ++ t) (p.rest ∙ ap (λ k. drop k old) l))

-- ---- a byte

pub put_one : (out : List ℕ) (at b : ℕ) → at < length out → Put (b ∷ []) out at (set out at b) (at + 1)
put_one out at b h = record { front = rw (add-one, take-suc-set, h); rest = drop-set-lt (at + 1) out at b (omega arith); on = omega arith }

-- ---- a word

-- copied into its part
pub put_part : (word old part : List ℕ) (at next : ℕ) → next ≡ at + length word → next ≤ length old → part ≡ word → Put word old at (put_mid at (next - at) old part) next
put_part word old part at next n h e =
    let l : length part ≡ next - at = ap length e ∙ omega arith in
    record {
      front = take-put_mid at (next - at) old part next (omega arith) (omega arith) ∙ ap (λ t. take at old ++ t) e;
      rest = drop-put_mid at (next - at) old part next (omega arith) (omega arith) l;
      on = omega arith;
    }

-- ---- bytes one after the other

-- one further
pub bytes_turn : (f : ℕ → ℕ) (word old out : List ℕ) (at i x : ℕ) → i < length word → at + i < length out → x ≡ f (get_or word i 0)
    → Put (map f (take i word)) old at out (at + i) → Put (map f (take (i + 1) word)) old at (set out (at + i) x) (at + (i + 1))
bytes_turn f word old out at i x h k e p =
    let j : at + (i + 1) ≡ at + i + 1 = omega arith in
    let t : map f (take i word) ++ (x ∷ []) ≡ map f (take (i + 1) word) =
    rw (add-one, take-suc word i 0 h, map-append f (take i word) (get_or word i 0 ∷ []), e) in
    rw j (retext _ _ old (set out (at + i) x) at (at + i + 1) t (then (map f (take i word)) (x ∷ []) old out (set out (at + i) x) at (at + i) (at + i + 1) p (put_one out (at + i) x k)))

-- ---- digits

-- none
pub digits_none : (out : List ℕ) (at k n : ℕ) → k ≡ 0 → Put (digits k n) out at out at
unfolding digits
digits_none out at k n e = rw e (nothing out at)

-- one
pub digits_one : (k n d : ℕ) → (k ≡ 0 → ⊥) → n < 10 → d ≡ 48 + n → d ∷ [] ≡ digits k n
unfolding digits
digits_one zero n d z h e = absurd (z refl)
digits_one (suc k) n d z h e = rw (lt-ltb n 10 h, e)

-- the last, behind those of a tenth
pub digits_last : (k n d : ℕ) → (k ≡ 0 → ⊥) → 10 ≤ n → d ≡ 48 + n % 10 → digits (k - 1) (n / 10) ++ (d ∷ []) ≡ digits k n
unfolding digits
digits_last zero n d z h e = absurd (z refl)
digits_last (suc k) n d z h e = let j : suc k - 1 ≡ k = omega arith in rw (le-ltb n 10 h, e, j)

-- ---- bits

-- no bits, and no space
pub after_none : (out bits : List ℕ) (at : ℕ) → length bits ≡ 0 → Put (bits_after bits) out at out at
unfolding bits_after
after_none out [] at e = nothing out at
after_none out (b ∷ bs) at e = absurd (omega arith)

-- a space, and the bits
pub after_some : (bits : List ℕ) → (length bits ≡ 0 → ⊥) → space ++ map bit_digit bits ≡ bits_after bits
unfolding bits_after
after_some [] z = absurd (z refl)
after_some (b ∷ bs) z = refl

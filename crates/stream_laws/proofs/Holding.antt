-- What a reader holds after some bytes of a record is what those bytes say, and stays so with each byte more. Assumes nothing.
use mathlib.Core.Path.{◌≡◌, refl, sym, ap, ◌∙◌}
use mathlib.Core.List.{List, [], ◌∷◌, ◌++◌, append-nil}
use mathlib.Core.Logic.{⊎_elim, inl, inr}
use Prim.Native.Nat.{ℕ, suc, ◌+◌, ◌*◌, ◌-◌, ◌/◌, ◌%◌, ◌^◌, ◌<◌, ◌≤◌}
use native.Mathlib.Nat.{mod-eq_of_lt, pow-le-pow_right}
use native.Mathlib.Omega.{arith}
use lib.ListN.{length, get_or, set, take, drop, length-append, length-drop, length-take, drop_of_length-le}
use lib.Seq.{take_all, drop-cons, drop-append-le, take-append-le, set_at, set_out, append_snoc}
use Rattle.numbers.proofs.Cases.{less_or_not}
use Rattle.stream_grammar.specs.Stream.{AreBytes, number_at, length_said, kind_said, checks, mechanisms, edges, degrees}
use Rattle.stream_reader.specs.Reading.{holding, grown, summed, added, payload_kept}
use Rattle.stream_grammar.proofs.Bytes.{bytes_more, bytes_drop, number_bound, number_drop, number_before, number_within, number_after}
use Rattle.stream_laws.proofs.Degrees.{degrees_none, degrees_same, degrees_more, degrees_small}
use Rattle.stream_reader.proofs.Steps.{grown_before, grown_after, grown_within, summed_before, summed_after, summed_within}

-- a number of at most 4 bytes, one byte further
field_grows : (n at : ℕ) (xs : List ℕ) (b : ℕ) → n ≤ 4 → AreBytes xs → b < 256 → grown (number_at n at xs) at n (length xs) b ≡ number_at n at (xs ++ (b ∷ []))
field_grows n at xs b s f h =
    let v = number_at n at xs in
    let w = number_at n at (xs ++ (b ∷ [])) in
    ⊎_elim
    (λ (l : length xs < at). sym (grown_before v at n (length xs) b l) ∙ sym (number_before n at xs b l))
    (λ (l : at ≤ length xs).
    ⊎_elim
    (λ (k : length xs < at + n).
    let e : w ≡ v + b * 256 ^ (length xs - at) = number_within n at xs b l k in
    let small : w < 2 ^ 64 = omega (arith, number_bound n at (xs ++ (b ∷ [])) (bytes_more xs b f h), pow-le-pow_right {n = 256} (omega arith) {i = n} {j = 4} s) in
    sym (grown_within v at n (length xs) b (b * 256 ^ (length xs - at)) w l (omega arith) refl (sym (ap (λ x. x % 2 ^ 64) (sym e) ∙ mod-eq_of_lt small))))
    (λ (k : at + n ≤ length xs). sym (grown_after v at n (length xs) b l (omega arith)) ∙ sym (number_after n at xs b k))
    (less_or_not (length xs) (at + n)))
    (less_or_not (length xs) at)

-- the sum of degrees, one byte of the payload p further
sum_payload : (p : List ℕ) (at b : ℕ) → AreBytes p → b < 256 → 18 ≤ at → at ≡ 6 + length p
    → summed (degrees (mechanisms p) p) (mechanisms p) at b ≡ degrees (mechanisms p) (p ++ (b ∷ []))
unfolding mechanisms
sum_payload p at b f h k e =
    let n = mechanisms p in
    let q = at - 18 in
    let old = degrees n p in
    let new = degrees n (p ++ (b ∷ [])) in
    ⊎_elim
    (λ (l : q / 12 < n).
    sym
    (summed_within old n at b new k l
    (⊎_elim
    (λ (r : q % 12 < 8). degrees_same n p b (λ m i. ⊎_elim (λ t. inl t) (λ t. inr (omega arith)) (less_or_not (length p) (20 + 12 * m))) ∙ grown_before old 8 4 (q % 12) b r)
    (λ (r : 8 ≤ q % 12).
    let more : new ≡ old + b * 256 ^ (q % 12 - 8) = degrees_more n p b (q / 12) (q % 12 - 8) l (omega arith) (omega arith) in
    let small : new < 2 ^ 64 = degrees_small n (p ++ (b ∷ [])) (bytes_more p b f h) (number_bound 4 4 p f) in
    grown_within old 8 4 (q % 12) b (b * 256 ^ (q % 12 - 8)) new r (omega arith) refl (sym (ap (λ x. x % 2 ^ 64) (sym more) ∙ mod-eq_of_lt small)))
    (less_or_not (q % 12) 8))))
    (λ (l : n ≤ q / 12). sym (summed_after old n at b k l) ∙ sym (degrees_same n p b (λ m i. inr (omega arith))))
    (less_or_not (q / 12) n)

-- and of the whole record's bytes
sum_grows : (xs : List ℕ) (b : ℕ) → AreBytes xs → b < 256
    → summed (degrees (mechanisms (drop 6 xs)) (drop 6 xs)) (mechanisms (drop 6 xs)) (length xs) b
    ≡ degrees (mechanisms (drop 6 (xs ++ (b ∷ [])))) (drop 6 (xs ++ (b ∷ [])))
unfolding mechanisms
sum_grows xs b f h =
    let p = drop 6 xs in
    let p' = drop 6 (xs ++ (b ∷ [])) in
    let l : length p ≡ length xs - 6 = length-drop 6 xs in
    let l' : length p' ≡ length (xs ++ (b ∷ [])) - 6 = length-drop 6 (xs ++ (b ∷ [])) in
    ⊎_elim
    (λ (k : length xs < 18).
    sym (summed_before (degrees (mechanisms p) p) (mechanisms p) (length xs) b k)
    ∙ degrees_none (mechanisms p) p (omega (arith, l))
    ∙ sym (degrees_none (mechanisms p') p' (omega (arith, l', length-append xs (b ∷ [])))))
    (λ (k : 18 ≤ length xs).
    sum_payload p (length xs) b (bytes_drop 6 xs f) h k (omega (arith, l))
    ∙ rw (drop-append-le 6 xs (b ∷ []) (omega arith), number_after 4 4 p b (omega (arith, l))))
    (less_or_not (length xs) 18)

-- what a reader holds, one byte further
pub holding_more : (offset : ℕ) (xs : List ℕ) (b : ℕ) → AreBytes xs → b < 256 → length xs < 2 ^ 63 → added (holding offset xs) b ≡ holding offset (xs ++ (b ∷ []))
unfolding added length_said kind_said checks mechanisms edges
holding_more offset xs b f h s =
    let xs' = xs ++ (b ∷ []) in
    let t : (length xs + 1) % 2 ^ 64 ≡ length xs' = mod-eq_of_lt (omega arith) ∙ sym (length-append xs (b ∷ [])) in
    rw (
      t,
      field_grows 4 0 xs b (omega arith) f h,
      field_grows 2 4 xs b (omega arith) f h,
      sum_grows xs b f h,
      number_drop 4 0 6 xs,
      number_drop 4 4 6 xs,
      number_drop 4 8 6 xs,
      field_grows 4 6 xs b (omega arith) f h,
      field_grows 4 10 xs b (omega arith) f h,
      field_grows 4 14 xs b (omega arith) f h,
      number_drop 4 0 6 xs',
      number_drop 4 4 6 xs',
      number_drop 4 8 6 xs',
    )

-- what is kept, one byte of the payload further
pub kept_more : (p room : List ℕ) (b : ℕ) → set (payload_kept p room) (length p) b ≡ payload_kept (p ++ (b ∷ [])) room
unfolding payload_kept
kept_more p room b =
    let n = length room in
    let l : length (p ++ (b ∷ [])) ≡ length p + 1 = length-append p (b ∷ []) in
    ⊎_elim
    (λ (h : length p < n).
    let e : suc (length p) ≡ length (p ++ (b ∷ [])) = omega (arith, l) in
    rw (take_all n p (omega arith), drop-cons room (length p) 0 h, set_at p (get_or room (length p) 0) (drop (suc (length p)) room) b (length p) refl, e, take_all n (p ++ (b ∷ [])) (omega (arith, l)))
    (sym (append_snoc p b (drop (length (p ++ (b ∷ []))) room))))
    (λ (h : n ≤ length p).
    rw (drop_of_length-le room h, append-nil (take n p), set_out (take n p) (length p) b (omega (arith, length-take n p)), take-append-le n p (b ∷ []) h, drop_of_length-le room {i = length (p ++ (b ∷ []))} (omega (arith, l)), append-nil (take n p)))
    (less_or_not (length p) n)

-- A number and its bytes, a record and its bytes: what is written is read back, and what is read is what was written. Assumes nothing.
use mathlib.Core.Path.{◌≡◌, refl, sym, ap, ◌∙◌}
use mathlib.Core.List.{List, [], ◌∷◌, ◌++◌, append_assoc}
use Prim.Native.Nat.{ℕ, zero, suc, ◌+◌, ◌*◌, ◌/◌, ◌%◌, ◌^◌, ◌<◌, ◌≤◌}
use native.Mathlib.Nat.{pow-zero, pow-succ'}
use native.Mathlib.Omega.{arith}
use lib.ListN.{length, take, drop, length-append, length-drop, take-append-drop}
use lib.Seq.{take_at, drop_at, drop-drop, length-take-le}
use Rattle.stream_grammar.specs.Stream.{AreBytes, number, bytes_of, number_at, encode, Rec, length_said, kind_said}
use Rattle.stream_grammar.proofs.Bytes.{bytes_take, bytes_drop, bytes_append}

-- ---- numbers

pub length_bytes_of : (n k : ℕ) → length (bytes_of n k) ≡ n
unfolding bytes_of
length_bytes_of zero k = refl
length_bytes_of (suc n) k = ap suc (length_bytes_of n (k / 256))

-- a number's bytes stand for it
pub number_bytes_of : (n k : ℕ) → k < 256 ^ n → number (bytes_of n k) ≡ k
unfolding number bytes_of
number_bytes_of zero k h = omega (arith, pow-zero 256)
number_bytes_of (suc n) k h =
    let q : k / 256 < 256 ^ n = omega (arith, pow-succ' 256 n) in
    rw (number_bytes_of n (k / 256) q) (omega arith)

-- bytes are those of their number
bytes_of_number : (xs : List ℕ) → AreBytes xs → bytes_of (length xs) (number xs) ≡ xs
unfolding number bytes_of
bytes_of_number [] f = refl
bytes_of_number (x ∷ xs) f =
    let h : x < 256 = f 0 in
    let m : (x + 256 * number xs) % 256 ≡ x = omega arith in
    let d : (x + 256 * number xs) / 256 ≡ number xs = omega arith in
    rw (m, d, bytes_of_number xs (λ i. f (suc i)))

-- a number's bytes are bytes
pub bytes_bytes_of : (n k : ℕ) → AreBytes (bytes_of n k)
unfolding bytes_of
bytes_bytes_of zero k i = omega arith
bytes_bytes_of (suc n) k zero = omega arith
bytes_bytes_of (suc n) k (suc i) = bytes_bytes_of n (k / 256) i

-- ---- records

-- the bytes of a record
abbrev pub encoded : Rec → List ℕ
encoded r = encode r.kind r.payload

module _ (kind : ℕ) (p rest : List ℕ) where
  -- a record's payload length is read back
  pub length_said_lem : length p < 4294967296 → length_said (encode kind p ++ rest) ≡ length p
  unfolding length_said number_at encode
  length_said_lem h =
      let a = bytes_of 4 (length p) in
      let b = bytes_of 2 kind in
      rw (append_assoc a (b ++ p) rest, take_at a ((b ++ p) ++ rest) 4 (length_bytes_of 4 (length p))) (number_bytes_of 4 (length p) h)

  -- and its kind
  pub kind_said_lem : kind < 65536 → kind_said (encode kind p ++ rest) ≡ kind
  unfolding kind_said number_at encode
  kind_said_lem h =
      let a = bytes_of 4 (length p) in
      let b = bytes_of 2 kind in
      rw (append_assoc a (b ++ p) rest, drop_at a ((b ++ p) ++ rest) 4 (length_bytes_of 4 (length p)), append_assoc b p rest, take_at b (p ++ rest) 2 (length_bytes_of 2 kind)) (number_bytes_of 2 kind h)

  -- what follows the head is the payload
  pub payload_said_lem : drop 6 (encode kind p ++ rest) ≡ p ++ rest
  unfolding encode
  payload_said_lem =
      let a = bytes_of 4 (length p) in
      let b = bytes_of 2 kind in
      rw (append_assoc a (b ++ p) rest, append_assoc b p rest, ← append_assoc a b (p ++ rest))
      (drop_at (a ++ b) (p ++ rest) 6 (length-append a b ∙ omega (arith, length_bytes_of 4 (length p), length_bytes_of 2 kind)))

-- a record's length
pub length_encode : (kind : ℕ) (p : List ℕ) → length (encode kind p) ≡ 6 + length p
unfolding encode
length_encode kind p =
    let a = bytes_of 4 (length p) in
    let b = bytes_of 2 kind in
    length-append a (b ++ p) ∙ omega (arith, length-append b p, length_bytes_of 4 (length p), length_bytes_of 2 kind)

-- a record's bytes are bytes
pub bytes_encode : (kind : ℕ) (p : List ℕ) → AreBytes p → AreBytes (encode kind p)
unfolding encode
bytes_encode kind p f =
    bytes_append (bytes_of 4 (length p)) (bytes_of 2 kind ++ p) (bytes_bytes_of 4 (length p))
    (bytes_append (bytes_of 2 kind) p (bytes_bytes_of 2 kind) f)

-- bytes that begin with a whole record are that record's, and the rest
pub complete_is : (xs : List ℕ) → AreBytes xs → 6 + length_said xs ≤ length xs
    → encode (kind_said xs) (take (length_said xs) (drop 6 xs)) ++ drop (6 + length_said xs) xs ≡ xs
unfolding encode kind_said length_said number_at
complete_is xs f h =
    let n = length_said xs in
    let p = take n (drop 6 xs) in
    let l : length p ≡ n = length-take-le n (drop 6 xs) (omega (arith, length-drop 6 xs)) in
    let a : bytes_of 4 (number (take 4 xs)) ≡ take 4 xs =
    ap (λ k. bytes_of k (number (take 4 xs))) (sym (length-take-le 4 xs (omega arith))) ∙ bytes_of_number (take 4 xs) (bytes_take 4 xs f) in
    let b : bytes_of 2 (number (take 2 (drop 4 xs))) ≡ take 2 (drop 4 xs) =
    ap (λ k. bytes_of k (number (take 2 (drop 4 xs)))) (sym (length-take-le 2 (drop 4 xs) (omega (arith, length-drop 4 xs))))
    ∙ bytes_of_number (take 2 (drop 4 xs)) (bytes_take 2 (drop 4 xs) (bytes_drop 4 xs f)) in
    rw (l, a, b, append_assoc (take 4 xs) (take 2 (drop 4 xs) ++ p) (drop (6 + n) xs), append_assoc (take 2 (drop 4 xs)) p (drop (6 + n) xs), ← drop-drop n 6 xs, take-append-drop n (drop 6 xs), ← drop-drop 2 4 xs, take-append-drop 2 (drop 4 xs))
    (take-append-drop 4 xs)

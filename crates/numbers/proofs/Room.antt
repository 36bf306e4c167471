-- The length of a part of an array that was just made, and of the same part after a call wrote into it. Assumes nothing.
use Rattle.std.proofs.Common.{◌≡◌, ℕ, ◌+◌, ◌≤◌, List, ◌++◌, length, take, drop, replicate, sym, subst, arith, length-append, length-take-le}
use lib.ListN.{length-replicate}

-- the first n of an array's equal elements are n
pub part_length : {A : Type 0} (x : A) (n room : ℕ) → n ≤ room → n ≡ length (take n (replicate room x))
part_length x n room h = sym (length-take-le n (replicate room x) (subst (λ k. n ≤ k) (sym (length-replicate room x)) h))

-- a call left as many of them, and the array fits them again
pub again_fits : {A : Type 0} (x : A) (new : List A) (n room : ℕ) → length new ≡ length (take n (replicate room x)) → n ≤ room → n ≤ length (new ++ drop n (replicate room x))
again_fits x new n room kept h = omega (arith, kept, part_length x n room h, length-append new (drop n (replicate room x)))

-- and its first n are n again
pub again_length : {A : Type 0} (x : A) (new : List A) (n room : ℕ) → length new ≡ length (take n (replicate room x)) → n ≤ room → n ≡ length (take n (new ++ drop n (replicate room x)))
again_length x new n room kept h = sym (length-take-le n (new ++ drop n (replicate room x)) (again_fits x new n room kept h))

-- room for one more than a test allows
pub spare : (n k : ℕ) → n ≤ k → n ≤ k + 1
spare n k h = omega (arith, h)

-- and for one more than each
pub one_more : (n k : ℕ) → n ≤ k → n + 1 ≤ k + 1
one_more n k h = omega (arith, h)

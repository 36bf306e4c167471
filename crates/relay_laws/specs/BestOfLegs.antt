-- The best of the legs: what an archive's line "least weight" says of a decode that was answered. It is said over what is filed of the decode, the model and the
-- syndrome that were handed in, the answer, and the lists that were left, and nothing in it is of how the legs ran. Definitions only. Assumes nothing.
use Rattle.std.specs.Prelude.{ℕ, suc, ◌+◌, ◌*◌, ◌%◌, ◌<◌, ◌≤◌, ◌≡◌, true, false, cond, List, ◌↔◌, Float, length, get_or, replicate}
use Rattle.std.proofs.Math.Option.{none, some}
use Rattle.std.specs.Float.{nan}
use Rattle.std.specs.Float.Ieee.{lt, le}
use Rattle.numbers.specs.Floats.{zero⁺, is_finite}
use Rattle.numbers.specs.Loops.{turns, part}
use Rattle.graph_lists.specs.Graph.{Graph, own_incidence}
use Rattle.relay_step.specs.Leg.{correction_weight}
use Rattle.relay_calls.specs.Answers.{DecodeAnswer}
use Rattle.relay_calls.specs.declared.LegRecord.{LegRecord}
use Rattle.relay_calls.specs.Records.{leg_record}
use Rattle.relay_calls.specs.Decode.{Shot}
use Rattle.relay_calls.specs.Calls.{DecodeLists, Summary, summary_of}

-- ---- what is filed of a decode

-- the model's graph and priors, and the syndrome; how many legs there may be; the answer in the reference's words; the leg lists, the rows and the correction
pub record Filed : Type 0 where
  pub graph : Graph
  pub prior : List Float
  pub syndrome : List ℕ
  pub legs : ℕ
  pub said : Summary
  pub leg_state : List ℕ
  pub leg_iterations : List ℕ
  pub leg_weight : List Float
  pub rows : List ℕ
  pub correction : List ℕ

-- of a shot, of what it was answered and of the lists that it left
abbrev pub filed : Shot → DecodeAnswer → DecodeLists → Filed
filed x answer l =
    record {
      graph = x.graph;
      prior = x.prior;
      syndrome = x.syndrome;
      legs = suc x.settings.num_legs;
      said = summary_of answer;
      leg_state = l.leg_state;
      leg_iterations = l.leg_iterations;
      leg_weight = l.leg_weight;
      rows = l.rows;
      correction = l.correction;
    }

-- ---- a correction

-- a bit for each mechanism
pub record AreBits (mechanisms : ℕ) (bits : List ℕ) : Type 0 where
  pub many : length bits ≡ mechanisms
  pub each : (m : ℕ) → get_or bits m 0 ≤ 1

-- the parity of the bits over the mechanisms that share an edge with the check c
unfoldable pub parity_at : Graph → List ℕ → ℕ → ℕ
parity_at g bits c = turns g.mechanisms (λ m n. n + cond (own_incidence g c m) (get_or bits m 0) 0) 0 % 2

-- every check has the parity that the syndrome asks
abbrev pub Satisfies : Graph → List ℕ → List ℕ → Type 0
Satisfies g syndrome bits = (c : ℕ) → c < g.checks → parity_at g bits c ≡ get_or syndrome c 0

-- at least one has not
pub record Fails (g : Graph) (syndrome bits : List ℕ) : Type 0 where
  pub check : ℕ
  pub within : check < g.checks
  pub other : parity_at g bits check ≡ get_or syndrome check 0 → ⊥

-- ---- a leg

-- its record
unfoldable pub leg_of : Filed → ℕ → LegRecord
leg_of f r = leg_record f.leg_state f.leg_iterations f.leg_weight r

-- the iterations that a record tells
abbrev pub iterations_of : LegRecord → ℕ
iterations_of (LegRecord.Converged weight iterations) = iterations
iterations_of (LegRecord.RanOut iterations) = iterations
iterations_of LegRecord.NotExecuted = 0

-- its row: its part of the flat list
unfoldable pub row_of : Filed → ℕ → List ℕ
row_of f r = part (r * f.graph.mechanisms) (r * f.graph.mechanisms + f.graph.mechanisms) f.rows

-- it was executed, and its record is converged, with this weight. The legs with an index below the answer's count are the executed ones
pub record ConvergedAt (f : Filed) (r : ℕ) (weight : Float) : Type 0 where
  pub executed : r < f.said.executed_legs
  pub iterations : ℕ
  pub says : leg_of f r ≡ LegRecord.Converged weight iterations

-- its row is zeroes, and its weight +0.0
pub record Blank (f : Filed) (r : ℕ) : Type 0 where
  pub row : row_of f r ≡ replicate f.graph.mechanisms 0
  pub weight : get_or f.leg_weight r nan ≡ zero⁺

-- ---- the five lines

-- of the leg that the answer is of. Weights are compared as floats, by IEEE comparison with the two zeroes equal; the answer's is the leg's own, to the bit
pub record Least (f : Filed) : Type 0 where
  pub leg : ℕ
  pub weight : Float
  pub converged : ConvergedAt f leg weight
  pub row : row_of f leg ≡ f.correction
  pub answered : f.said.weight ≡ some weight
  pub least : (r : ℕ) (w : Float) → ConvergedAt f r w → le weight w ≡ true
  pub earliest : (r : ℕ) (w : Float) → r < leg → ConvergedAt f r w → lt weight w ≡ true

-- of a converged leg: a reader can compute its weight again from its row, bit times prior, in order, from -0.0
pub record RowHolds (f : Filed) (r : ℕ) (weight : Float) : Type 0 where
  pub bits : AreBits f.graph.mechanisms (row_of f r)
  pub satisfies : Satisfies f.graph f.syndrome (row_of f r)
  pub again : weight ≡ correction_weight f.prior (row_of f r) f.graph.mechanisms
  pub finite : is_finite weight ≡ true

-- all five, of what is filed
pub record BestOfLegs (f : Filed) : Type 0 where
  -- the correction has a bit for each mechanism
  pub bits : AreBits f.graph.mechanisms f.correction
  -- 1: converged exactly when some executed leg's record is converged
  pub converges : (f.said.converged ≡ true) ↔ ((r : ℕ) × (w : Float) × ConvergedAt f r w)
  -- 2: then the correction is the row of such a leg and satisfies every check; the weight is that leg's, no greater than that of any executed converged leg,
  -- and the leg is the earliest of equal ones
  pub least : f.said.converged ≡ true → Least f
  pub satisfies : f.said.converged ≡ true → Satisfies f.graph f.syndrome f.correction
  -- 3: not converged, it fails at least one check, and there is no weight
  pub fails : f.said.converged ≡ false → Fails f.graph f.syndrome f.correction
  pub no_weight : f.said.converged ≡ false → f.said.weight ≡ none
  -- 4: the total is the sum of the executed legs' iterations; some leg was executed, none above those that may be, and each has run at least once
  pub total : f.said.total_iterations ≡ turns f.said.executed_legs (λ r n. n + iterations_of (leg_of f r)) 0
  pub some_leg : 1 ≤ f.said.executed_legs
  pub legs_within : f.said.executed_legs ≤ f.legs
  pub ran : (r : ℕ) → r < f.said.executed_legs → 1 ≤ iterations_of (leg_of f r)
  -- 5: of each converged leg, of each that ran out, and of each that was not executed
  pub rows_hold : (r : ℕ) (w : Float) → ConvergedAt f r w → RowHolds f r w
  pub out_blank : (r iterations : ℕ) → r < f.said.executed_legs → leg_of f r ≡ LegRecord.RanOut iterations → Blank f r
  pub not_executed : (r : ℕ) → f.said.executed_legs ≤ r → r < f.legs → leg_of f r ≡ LegRecord.NotExecuted
  pub left_blank : (r : ℕ) → f.said.executed_legs ≤ r → r < f.legs → Blank f r

-- `min_sum_bp_into` of min_sum.rs past its tests, as functions on lists, in its order. Definitions only. Assumes nothing.
use Rattle.std.specs.Prelude.{ℕ, ◌/◌, Bool, true, false, not, ◌&&◌, cond, eqb, ltb, leb, negsuc, Float, length, get_or, set}
use Rattle.std.specs.Bool.{beq}
use mathlib.Core.List.{List, foldl}
use Rattle.std.specs.Float.{nan, fin}
use Rattle.std.specs.Float.Ieee.{lt}
use Rattle.numbers.specs.Floats.{◌+ᶠ◌, ◌-ᶠ◌, ◌*ᶠ◌, zero⁺, one⁺, one⁻, abs, is_negative}
use Rattle.numbers.specs.Loops.{turns, table}
use Rattle.graph_lists.specs.Graph.{Graph, check_entries, var_entries}
use Rattle.graph_lists.specs.Messages.{Access, Scan, scan, total, from_variables, cleared}

-- `damp`: 0.25
abbrev pub damp : Float
damp = fin false 1 (negsuc 1)

-- `ewa_weight`: 0.3, the binary64 nearest
abbrev pub ewa_weight : Float
ewa_weight = fin false 5404319552844595 (negsuc 53)

-- ---- a check, over its own messages: what its first pass knows is `scan` of `graph_lists` `Messages`

-- `total_sign.copysign(total_sign * message)`, where the total sign is 1 or -1
unfoldable pub sign_without : Float → Float → Float
sign_without total_sign message = cond (is_negative (total_sign *ᶠ message)) one⁻ one⁺

-- the message sent at a position: (sign times minimum) times scale
unfoldable pub sent_at : Float → Scan → ℕ → Float → Float
sent_at scale s position message = sign_without s.total_sign message *ᶠ cond (eqb position s.holder) s.min2 s.min1 *ᶠ scale

-- the first n that are sent
unfoldable pub sent_to : Float → Scan → List Float → ℕ → List Float
sent_to scale s messages n = table n (λ i. sent_at scale s i (get_or messages i nan))

-- all that a check of two entries or more sends
unfoldable pub check_messages : Float → Bool → List Float → List Float
check_messages scale odd messages = sent_to scale (scan odd messages (length messages)) messages (length messages)

-- ---- one iteration, over all messages. `had` says how a check's are had out of them, and it is all that the layout of the graph changes

-- the messages, to variables and to checks
pub record Messages : Type 0 where
  pub c_to_v : List Float
  pub v_to_c : List Float

-- messages of both lists
abbrev pub messages : List Float → List Float → Messages
messages c v = record { c_to_v = c; v_to_c = v }

-- a check with fewer than two entries is skipped: `continue`
unfoldable pub skipped : Graph → ℕ → Bool
skipped g c = ltb (length (check_entries g c)) 2

-- a check that is not skipped: its messages in `c_to_v` from its messages in `v_to_c`
unfoldable pub update_check : Access → Graph → Float → List ℕ → Messages → ℕ → Messages
update_check had g scale syndrome s c =
    let new = check_messages scale (not (eqb (get_or syndrome c 0) 0)) (had.messages_of g c s.v_to_c) in
    messages (had.with_messages g c s.c_to_v new) s.v_to_c

-- what is written over an old message: new is sum - own, and (1 - damp) new + damp old is written
unfoldable pub damped : Float → Float → Float → Float
damped sum own old = (one⁺ -ᶠ damp) *ᶠ (sum -ᶠ own) +ᶠ damp *ᶠ old

-- that, for each message that the entries name
unfoldable pub damped_messages : Float → List Float → List Float → List ℕ → List Float
damped_messages sum c_to_v v_to_c entries = foldl (λ (l : List Float) (m : ℕ). set l m (damped sum (get_or c_to_v m nan) (get_or l m nan))) v_to_c entries

-- the prior and all that the checks say
unfoldable pub raw_posterior : Graph → List Float → Messages → ℕ → Float
raw_posterior g priors s v = get_or priors v nan +ᶠ total s.c_to_v (var_entries g v)

-- a variable's messages: the sum is prior + total
unfoldable pub update_variable : Graph → List Float → Messages → ℕ → Messages
update_variable g priors s v = messages s.c_to_v (damped_messages (raw_posterior g priors s v) s.c_to_v s.v_to_c (var_entries g v))

-- one check of an iteration that is not serial
unfoldable pub parallel_check : Access → Graph → Float → List ℕ → Messages → ℕ → Messages
parallel_check had g scale syndrome s c = cond (skipped g c) s (update_check had g scale syndrome s c)

-- the first n checks, in index order
unfoldable pub checks_to : Access → Graph → Float → List ℕ → Messages → ℕ → Messages
checks_to had g scale syndrome s n = turns n (λ c t. parallel_check had g scale syndrome t c) s

-- the first n variables, in index order
unfoldable pub variables_to : Graph → List Float → Messages → ℕ → Messages
variables_to g priors s n = turns n (λ v t. update_variable g priors t v) s

-- all checks, then all variables
unfoldable pub parallel_iteration : Access → Graph → Float → List ℕ → List Float → Messages → Messages
parallel_iteration had g scale syndrome priors s = variables_to g priors (checks_to had g scale syndrome s g.checks) g.mechanisms

-- one check of a serial iteration, and then each variable of its entries
unfoldable pub serial_check : Access → Graph → Float → List ℕ → List Float → Messages → ℕ → Messages
serial_check had g scale syndrome priors s c =
    cond (skipped g c) s (foldl (update_variable g priors) (update_check had g scale syndrome s c) (check_entries g c))

-- the first n checks so, in index order
unfoldable pub serial_to : Access → Graph → Float → List ℕ → List Float → Messages → ℕ → Messages
serial_to had g scale syndrome priors s n = turns n (λ c t. serial_check had g scale syndrome priors t c) s

-- all checks
unfoldable pub serial_iteration : Access → Graph → Float → List ℕ → List Float → Messages → Messages
serial_iteration had g scale syndrome priors s = serial_to had g scale syndrome priors s g.checks

-- one iteration, serial or not
abbrev pub iteration : Bool → Access → Graph → Float → List ℕ → List Float → Messages → Messages
iteration true = serial_iteration
iteration false = parallel_iteration

-- ---- the run

-- an element of the running posterior: (1 - weight) old + weight current
unfoldable pub running_average : Float → Float → Float → Float
running_average weight old current = (one⁺ -ᶠ weight) *ᶠ old +ᶠ weight *ᶠ current

-- the first n elements of the running posterior after an iteration
unfoldable pub averaged_to : Graph → List Float → Float → Messages → List Float → ℕ → List Float
averaged_to g priors weight s ewa n = table n (λ v. running_average weight (get_or ewa v nan) (raw_posterior g priors s v))

-- the running posterior
unfoldable pub averaged : Graph → List Float → Float → Messages → List Float → List Float
averaged g priors weight s ewa = averaged_to g priors weight s ewa g.mechanisms

-- the weight of iteration i of the outer round `outer`: 1 in the very first of all, else 0.3
unfoldable pub weight_of : ℕ → ℕ → Float
weight_of outer i = cond (eqb i 0 && eqb outer 0) one⁺ ewa_weight

-- the messages and the running posterior
pub record Belief : Type 0 where
  pub now : Messages
  pub ewa_posterior : List Float

-- a belief of its parts
abbrev pub belief : Messages → List Float → Belief
belief s ewa = record { now = s; ewa_posterior = ewa }

-- the raw posterior in place of the belief, where both are above zero or both not, and its magnitude is larger
unfoldable pub chosen : Float → Float → Float
chosen belief raw = cond (beq (lt zero⁺ belief) (lt zero⁺ raw) && lt (abs belief) (abs raw)) raw belief

-- the first n beliefs at the end
unfoldable pub chosen_to : Graph → List Float → Belief → ℕ → List Float
chosen_to g priors b n = table n (λ v. chosen (get_or b.ewa_posterior v nan) (raw_posterior g priors b.now v))

-- where an outer round starts: messages from the running posterior, which before the first round is the priors, and check messages 0.0
unfoldable pub start_round : Graph → List Float → Belief
start_round g ewa = belief (messages (cleared g) (from_variables g ewa)) ewa

module _ (had : Access) (g : Graph) (serial : Bool) (scale : Float) (syndrome : List ℕ) (priors : List Float) where
  -- an iteration of this weight
  unfoldable pub iterated : Float → Belief → Belief
  iterated weight b =
      let s = iteration serial had g scale syndrome priors b.now in
      belief s (averaged g priors weight s b.ewa_posterior)

  -- iteration i of the outer round `outer`
  unfoldable pub iterated_in : ℕ → ℕ → Belief → Belief
  iterated_in outer i b = iterated (weight_of outer i) b

  -- the first n iterations of an outer round
  unfoldable pub outer_round_to : ℕ → Belief → ℕ → Belief
  outer_round_to outer b n = turns n (iterated_in outer) (start_round g b.ewa_posterior)

  -- an outer round
  unfoldable pub outer_round : ℕ → ℕ → Belief → Belief
  outer_round inner outer b = outer_round_to outer b inner

  -- two outer rounds of n / 2 from 6 on, else one of n. Where there is no iteration the round still sets the messages
  unfoldable pub all_rounds : ℕ → Belief
  all_rounds n =
      let outerIterations : ℕ = cond (leb 6 n) 2 1 in
      turns outerIterations (outer_round (n / outerIterations)) (start_round g priors)

  -- the beliefs after n iterations
  unfoldable pub min_sum_bp : ℕ → List Float
  min_sum_bp n = chosen_to g priors (all_rounds n) g.mechanisms

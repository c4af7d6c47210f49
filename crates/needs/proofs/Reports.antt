-- What is needed from a record on, with the report of the way there: one record more.
use Prim.Native.Nat.{ℕ, suc, ◌+◌, ◌≤◌, ◌<◌, max}
use native.Mathlib.Omega.{arith}
use native.Mathlib.Nat.{le_antisymm, le_trans, le-max_left, le-max_right, max-le}
use mathlib.Core.Path.{◌≡◌, refl, sym, ◌∙◌, ap, ap₂}
use mathlib.Core.Logic.{inl, inr}
use mathlib.Core.Bool.{Bool, true, false, cond}
use mathlib.Core.List.{List, [], ◌∷◌, map}
use lib.ListN.{length}
use lib.Dec.{eqb}
use Rattle.lists.specs.Lists.{maximum}
use Rattle.calculus.specs.Facts.{Question}
use Rattle.calculus.specs.Steps.{Step}
use Rattle.format.specs.Records.{kind, next, records}
use Rattle.format.specs.Reading.{State, stepped, step_with_child, fault, Ticket, Faulty, steps_on}
use Rattle.format.specs.ProperForm.{by_shape, steps_at}
use Rattle.format.specs.Needs.{states_met, facts_in, pending_in, Report, report, complete, Need, NeedRefused, Needs, need_by}
use Rattle.format.proofs.Records.{records_more}
use Rattle.format.proofs.StepTurns.{turn_none, turn_stepped}
use Rattle.delimiters.proofs.Open.{open_number, RefusedOpen, refused_open}
use Rattle.needs.specs.Outcomes.{with_state, with_step, joined, need_from}

-- ---- the greater of two

max_over : (m f g : ℕ) → f ≤ m → max m (max f g) ≡ max m g
max_over m f g h = le_antisymm (max-le (le-max_left m g) (max-le (le_trans h (le-max_left m g)) (le-max_right m g)))
    (max-le (le-max_left m (max f g)) (le_trans (le-max_right f g) (le-max_right m (max f g))))

max_twice : (m f g : ℕ) → max (max m f) (max f g) ≡ max m (max f g)
max_twice m f g =
    le_antisymm (max-le (max-le (le-max_left m (max f g)) (le_trans (le-max_left f g) (le-max_right m (max f g)))) (le-max_right m (max f g)))
    (max-le (le_trans (le-max_left m f) (le-max_left (max m f) (max f g))) (le-max_right (max m f) (max f g)))

-- ---- a report and the states after

pub report_same : {a b c x y z : ℕ} → a ≡ x → b ≡ y → c ≡ z
    → ◌≡◌ {A = Report} (record { steps = a; facts = b; pending = c }) (record { steps = x; facts = y; pending = z })
report_same e f g = rw (e, f, g)

module _ (b : List ℕ) (u : Question) where
  -- the states after the first
  abbrev behind : State ℕ ℕ → List (Step × ℕ) → List (State ℕ ℕ)
  behind s [] = []
  behind s (t ∷ ts) = states_met (by_shape u) (stepped (by_shape u) s t) ts

  first_met : (s : State ℕ ℕ) (ts : List (Step × ℕ)) → states_met (by_shape u) s ts ≡ s ∷ behind s ts
  unfolding states_met
  first_met s [] = refl
  first_met s (t ∷ ts) = refl

  abbrev facts : State ℕ ℕ → ℕ
  facts = facts_in (λ k. k)

  abbrev ahead : State ℕ ℕ → List (Step × ℕ) → Report
  ahead s ts = report (λ k. k) (by_shape u) s ts

  -- a state that was met already counts once
  met_once : (m : Report) (s : State ℕ ℕ) (ts : List (Step × ℕ)) → joined (with_state m (facts s) (pending_in s)) (ahead s ts) ≡ joined m (ahead s ts)
  met_once m s ts =
      report_same refl (go facts m.facts) (go pending_in m.pending)
    where
      go : (f : State ℕ ℕ → ℕ) (n : ℕ) → max (max n (f s)) (maximum (map f (states_met (by_shape u) s ts))) ≡ max n (maximum (map f (states_met (by_shape u) s ts)))
      go f n =
          ap (λ l. max (max n (f s)) (maximum (map f l))) (first_met s ts) ∙ max_twice n (f s) (maximum (map f (behind s ts)))
          ∙ ap (λ l. max n (maximum (map f l))) (sym (first_met s ts))

  step_joined : (m : Report) (s : State ℕ ℕ) (t : Step × ℕ) (ts : List (Step × ℕ)) → facts s ≤ m.facts → pending_in s ≤ m.pending
      → joined m (ahead s (t ∷ ts)) ≡ joined (with_step m) (ahead (stepped (by_shape u) s t) ts)
  unfolding states_met
  step_joined m s t ts hf hp =
      report_same (omega arith) (max_over m.facts (facts s) _ hf) (max_over m.pending (pending_in s) _ hp)

  -- ---- from a record on

  abbrev from : State ℕ ℕ → Report → ℕ → ℕ → Need
  from s m r at = need_from b u s m r at

  pub from_refused : (s : State ℕ ℕ) (m : Report) (r at : ℕ) {c k : ℕ} → steps_on (by_shape u) b u s r at ≡ Faulty c k → from s m r at ≡ NeedRefused c k
  unfolding need_from
  from_refused s m r at e = ap (need_by (λ _. joined m (ahead s (steps_at b (records b at))))) e

  pub from_none : (s : State ℕ ℕ) (m : Report) (r at : ℕ) → length b < next b at → from s m r at ≡ NeedRefused 3 r
  from_none s m r at h = from_refused s m r at (turn_none (by_shape u) b u s r at h)

  -- where a branch is open, an end is 11
  pub from_open : (s : State ℕ ℕ) (m : Report) (r at : ℕ) → complete s ≡ false → next b at ≤ length b → (f : ℕ) → f ≡ open_number (by_shape u) b u s at → (f ≡ 0 → ⊥)
      → from s m r at ≡ NeedRefused f r
  unfolding need_from
  from_open s m r at unclosed h f e n = by_end (refused_open (by_shape u) b u s at r h f e n)
    where
      by_end : RefusedOpen (by_shape u) b u s at r f → from s m r at ≡ NeedRefused f r
      by_end (inl d) = from_refused s m r at d
      by_end (inr (q, d)) =
          let whole : Report = joined m (ahead s (steps_at b (records b at))) in
          ap (need_by (λ _. whole)) d ∙ ap (λ x. cond x (Needs whole) (NeedRefused 11 r)) unclosed ∙ ap (λ c. NeedRefused c r) (sym q)

  pub from_met : (s : State ℕ ℕ) (m : Report) (r at : ℕ) → from s (with_state m (facts s) (pending_in s)) r at ≡ from s m r at
  unfolding need_from
  from_met s m r at = ap (λ (l : Report). need_by (λ _. l) (steps_on (by_shape u) b u s r at)) (met_once m s (steps_at b (records b at)))

  -- a step at a position is the first of those left; any other record ends them
  pub steps_by : (at : ℕ) (x : Bool) → at + 6 ≤ length b → eqb (kind b at) 6 ≡ x
      → steps_at b (records b at) ≡ elim x [ false ↦ [] | true ↦ step_with_child b at ∷ steps_at b (records b (next b at)) ]
  unfolding steps_at
  steps_by at x h e =
      ap (steps_at b) (records_more b at h)
      ∙ ap (λ x. elim x as (λ _. List (Step × ℕ)) [ false ↦ [] | true ↦ step_with_child b at ∷ steps_at b (records b (next b at)) ]) e

  pub from_stepped : (s : State ℕ ℕ) (m : Report) (r at : ℕ) → facts s ≤ m.facts → pending_in s ≤ m.pending → next b at ≤ length b → kind b at ≡ 6
      → fault (by_shape u) b u s at ≡ 0
      → from s m r at ≡ from (stepped (by_shape u) s (step_with_child b at)) (with_step m) (suc r) (next b at)
  unfolding need_from
  from_stepped s m r at hf hp h k f =
      ap₂ (λ (l : Report) (x : Ticket ℕ ℕ). need_by (λ _. l) x)
      (ap (λ ts. joined m (ahead s ts)) (steps_by at true (omega arith) (ap (λ j. eqb j 6) k)) ∙ step_joined m s (step_with_child b at) (steps_at b (records b (next b at))) hf hp)
      (turn_stepped (by_shape u) b u s r at h k f)

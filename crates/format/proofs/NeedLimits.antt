-- What checking meets on its way is within its limits: all children of a split are tried for room when it is taken.
use Prim.Native.Nat.{ℕ, ◌≤◌}
use native.Mathlib.Omega.{arith}
use native.Mathlib.Nat.{max-le}
use mathlib.Core.Path.{◌≡◌, refl, sym, ◌∙◌, ap, subst}
use mathlib.Core.Bool.{Bool, true, false}
use mathlib.Core.Option.{Option}
use mathlib.Core.List.{List, [], ◌∷◌, ◌++◌, map}
use lib.ListN.{length, length-append}
use lib.IntN.{ℤ}
use Rattle.lists.specs.Lists.{All, maximum}
use Rattle.lists.proofs.Lists.{all_map}
use Rattle.calculus.specs.Limits.{fact_limit, pending_limit}
use Rattle.calculus.specs.Facts.{Question, Fact, Branch}
use Rattle.calculus.specs.Steps.{Step}
use Rattle.calculus.specs.Rules.{children}
use Rattle.calculus.specs.Walk.{Waiting, working, closed, enter}
use Rattle.calculus.specs.Derivations.{ChildLimits}
use Rattle.calculus.proofs.Walks.{child_taken}
use Rattle.calculus.proofs.Everywhere.{Everywhere, enter_everywhere, splits_of, enter_few}
use Rattle.format.specs.Reading.{State, proving, taking, modelled, stepped}
use Rattle.format.specs.Checking.{all_tried, taken_tried, checker, verdict}
use Rattle.format.specs.ProperForm.{steps_with_child}
use Rattle.format.specs.Needs.{states_met, facts_in, pending_in, Report, report}
use Rattle.format.specs.Demands.{AcceptedAs, ThL2Limits}
use Rattle.format.proofs.Behind.{Taken}
use Rattle.format.proofs.Claimed.{started}
use Rattle.format.proofs.Checker.{fitting}
use Rattle.format.proofs.Limits.{tried→limits, taken→limits}
use Rattle.format.proofs.Tickets.{verdict→}
use Rattle.format.proofs.Needs.{needs_counted, accepted_complete}

-- ---- states within the limits

abbrev Few : Branch → Type 0
Few b = length b ≤ fact_limit

abbrev Roomy : State Branch (List Fact) → Type 0
Roomy (proving k) = Everywhere ◌++◌ Few k × (length (splits_of ◌++◌ k) ≤ pending_limit)
Roomy (taking b) = Few b
Roomy (modelled b m) = Few b

with_child : (b : Branch) (c : List Fact) → ChildLimits b c → Few (b ++ c)
with_child b c h = omega (arith, length-append b c, h.facts)

module _ (u : Question) where
  roomy_split : (b : Branch) (ss : List (Waiting Branch (List Fact))) (t : Step × ℕ) → Roomy (proving (working b ss))
      → all_tried b (length ss) (children u b t.0) ≡ 0
      → Roomy (stepped (checker u) (proving (working b ss)) t)
  roomy_split b ss t ((_, hs), h) f =
      let (cs, e, d) = fitting (children u b t.0) _ f in
      let limits = tried→limits b (length ss) cs (ap (all_tried b (length ss)) (sym e) ∙ f) in
      subst (λ ds. Roomy (proving (enter ◌++◌ b ds ss))) (sym d) (
        enter_everywhere ◌++◌ Few b cs ss (all_map cs (with_child b) limits.children) hs,
        enter_few ◌++◌ pending_limit b cs ss h limits.splits,
      )

  roomy_taken : (b : Branch) (t : Step × ℕ) → taken_tried b (child_taken u b t) ≡ 0 → Roomy (stepped (checker u) (taking b) t)
  roomy_taken b t f =
      let (c, e, d) = fitting (child_taken u b t) _ f in
      subst (λ x. Few (b ++ x)) (sym d) (with_child b c (taken→limits b c (ap (taken_tried b) (sym e) ∙ f)))

  -- every state that checking meets is
  all_roomy : (s : State Branch (List Fact)) (ts : List (Step × ℕ)) (o : Option (List ℤ)) (s' : State Branch (List Fact))
      → Roomy s
      → Taken (checker u) s ts o s'
      → All Roomy (states_met (checker u) s ts)
  unfolding Taken states_met
  all_roomy s [] o s' r h = (r, tt)
  all_roomy (proving (working b ss)) (t ∷ ts) o s' r (f, h) =
      (r, all_roomy (stepped (checker u) (proving (working b ss)) t) ts o s' (roomy_split b ss t r f) h)
  all_roomy (proving closed) (t ∷ ts) o s' r h = absurd h
  all_roomy (taking b) (t ∷ ts) o s' r (f, h) = (r, all_roomy (stepped (checker u) (taking b) t) ts o s' (roomy_taken b t f) h)
  all_roomy (modelled b v) (t ∷ ts) o s' r h = absurd h

-- ---- the greatest numbers

roomy_facts : (s : State Branch (List Fact)) → Roomy s → facts_in length s ≤ fact_limit
roomy_facts (proving (working b ss)) r = r.0.0
roomy_facts (proving closed) r = omega arith
roomy_facts (taking b) r = r
roomy_facts (modelled b m) r = r

roomy_pending : (s : State Branch (List Fact)) → Roomy s → pending_in s ≤ pending_limit
roomy_pending (proving (working b ss)) r = r.1
roomy_pending (proving closed) r = omega arith
roomy_pending (taking b) r = omega arith
roomy_pending (modelled b m) r = omega arith

at_most : {A : Type 0} (f : A → ℕ) (n : ℕ) (xs : List A) → All (λ x. f x ≤ n) xs → maximum (map f xs) ≤ n
at_most f n [] h = omega arith
at_most f n (x ∷ xs) (l, h) = max-le l (at_most f n xs h)

-- ---- accepted tickets

first_roomy : (u : Question) (x : Bool) → length u.constraints ≤ fact_limit → Roomy (started (checker u) x)
first_roomy u true h = ((h, tt), omega arith)
first_roomy u false h = h

pub within_limits : ThL2Limits
within_limits work answer claim t r h e =
    let v = verdict→ children work answer t (verdict work answer t) (λ c r e. subst (AcceptedAs claim) (sym e) h) refl in
    let u = v.asked in
    let (x, o, held, k) = v.read in
    let met = all_roomy u (started (checker u) x) (steps_with_child t) o v.state (first_roomy u x v.few) k in
    let c = accepted_complete u claim v.state v.number (subst (AcceptedAs claim) (sym v.gives) h) in
    let states = states_met (checker u) (started (checker u) x) (steps_with_child t) in
    let same : r ≡ report length (checker u) (started (checker u) x) (steps_with_child t) = cc (e, needs_counted t u x o v.state held k c) in
    subst (λ (m : Report). (m.facts ≤ fact_limit) × (m.pending ≤ pending_limit)) (sym same) (
      at_most (facts_in length) fact_limit states (all_map states roomy_facts met),
      at_most pending_in pending_limit states (all_map states roomy_pending met),
    )

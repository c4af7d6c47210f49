-- Th4 and Th2: what checking accepts under claim 1 is a closed tree, so that no assignment meets all constraints; and in proper form and within the limits a
-- closed tree is accepted.
use Prim.Native.Nat.{ℕ, ◌≤◌}
use native.Mathlib.Omega.{arith}
use mathlib.Core.Path.{◌≡◌, subst}
use mathlib.Core.Bool.{true, false}
use mathlib.Core.Option.{none}
use mathlib.Core.List.{List, [], ◌∷◌}
use lib.ListN.{length}
use Rattle.lists.specs.Lists.{All}
use Rattle.calculus.specs.Limits.{fact_limit}
use Rattle.calculus.specs.Facts.{Question, Fact, Branch}
use Rattle.calculus.specs.Steps.{Step}
use Rattle.calculus.specs.Rules.{RuleSet, children}
use Rattle.calculus.specs.Instances.{IsStep}
use Rattle.calculus.specs.Walk.{working, closed}
use Rattle.calculus.specs.Derivations.{Closes, WithinLimits}
use Rattle.calculus.proofs.Limits.{limits→walk}
use Rattle.calculus.proofs.Walks.{walked→closes, closes→walked}
use Rattle.calculus.proofs.Trees.{closes_sound}
use Rattle.format.specs.Reading.{State, proving, taking, modelled}
use Rattle.format.specs.Checking.{NoSolution, verdict_by, verdict, checker_by, accepted}
use Rattle.format.specs.ProperForm.{by_shape, ProperNoSolution, steps, steps_with_child}
use Rattle.format.specs.Demands.{LargeEnough, Th2, Th4}
use Rattle.format.proofs.Behind.{Taken, proving_stays, taking_no_walk}
use Rattle.format.proofs.Claimed.{claimed_asked, claimed_in_range}
use Rattle.format.proofs.Tickets.{Holding, steps_in_range, ReadAs, proper→, verdict→, →verdict}
use Rattle.format.proofs.Checker.{bare, proved→walked, walked→proved}

pub all_bare : (u : Question) (ts : List (Step × ℕ)) → All (λ t. IsStep u t.0) ts → All (IsStep u) (bare ts)
all_bare u [] h = tt
all_bare u (t ∷ ts) (h, hs) = (h, all_bare u ts hs)

-- the ticket holds steps and the end, and checking closes every branch
pub record Closed (rules : RuleSet) (b : List ℕ) (u : Question) : Type 0 where
  pub held : Holding b u true none
  pub few : length u.constraints ≤ fact_limit
  pub taken : Taken (checker_by rules u) (proving (working u.constraints [])) (steps_with_child b) none (proving closed)

-- whatever the rules
pub accepted→closed : (rules : RuleSet) (work answer : ℕ) (b : List ℕ) → verdict_by rules work answer b ≡ NoSolution → (u : Question) × Closed rules b u
accepted→closed rules work answer b e =
    let a = verdict→ rules work answer b NoSolution (λ c r z. let z : ◌≡◌ {A = ℕ} 0 1 = cc in omega arith) e in
    (a.asked, by_claim a.asked a.state a.number a.read a.few a.gives)
  where
    by_claim : (u : Question) (s : State Branch (List Fact)) (q : ℕ)
        → ReadAs (checker_by rules) b u s
        → length u.constraints ≤ fact_limit
        → accepted u s q ≡ NoSolution
        → Closed rules b u
    by_claim u (proving closed) q (true, o, h, k) few a =
        let (_, none_left) = proving_stays (checker_by rules u) (working u.constraints []) (steps_with_child b) o k in
        record {
          held = subst (Holding b u true) none_left h;
          few = few;
          taken = subst (λ o. Taken (checker_by rules u) (proving (working u.constraints [])) (steps_with_child b) o (proving closed)) none_left k;
        }
    by_claim u (proving closed) q (false, o, h, k) few a = absurd (taking_no_walk (checker_by rules u) u.constraints (steps_with_child b) o closed k)
    by_claim u (proving (working br ss)) q r few a = absurd (let z : ◌≡◌ {A = ℕ} 0 1 = cc in omega arith)
    by_claim u (taking br) q r few a = absurd (let z : ◌≡◌ {A = ℕ} 0 1 = cc in omega arith)
    by_claim u (modelled br m) q r few a = absurd (let z : ◌≡◌ {A = ℕ} 0 1 = cc in omega arith)

closed→closes : (b : List ℕ) (u : Question) → Closed children b u → Closes u u.constraints (steps b)
closed→closes b u c =
    let q = claimed_in_range c.held.claimed in
    walked→closes u q.head u.constraints (steps b) q.constraints (all_bare u (steps_with_child b) (steps_in_range c.held))
    (proved→walked children u (working u.constraints []) (steps_with_child b) none c.taken)

pub no_solution_sound : Th4
no_solution_sound work answer t e =
    let (u, c) = accepted→closed children work answer t e in
    let q = claimed_in_range c.held.claimed in (
      u,
      claimed_asked c.held.claimed,
      λ a f m. closes_sound u q.literals_differ a f (closed→closes t u c) (all_bare u (steps_with_child t) (steps_in_range c.held)) m,
    )

-- ---- proper form under claim 1

proper_steps : (b : List ℕ) (u : Question) → ProperNoSolution b u → Holding b u true none
proper_steps b u (w, q, e) = by_claim (proper→ b u e)
  where
    by_claim : ReadAs by_shape b u (proving w) → Holding b u true none
    by_claim (true, o, h, k) = subst (Holding b u true) (proving_stays (by_shape u) (working (length u.constraints) []) (steps_with_child b) o k).1 h
    by_claim (false, o, h, k) = absurd (taking_no_walk (by_shape u) (length u.constraints) (steps_with_child b) o w k)

closes→accepted : (work answer : ℕ) (b : List ℕ) (u : Question)
    → LargeEnough work answer
    → Holding b u true none
    → WithinLimits u (steps b)
    → Closes u u.constraints (steps b)
    → verdict work answer b ≡ NoSolution
closes→accepted work answer b u big h l k =
    let q = claimed_in_range h.claimed in
    let walked = closes→walked u q.head u.constraints (steps b) q.constraints (all_bare u (steps_with_child b) (steps_in_range h)) k in
    (→verdict children work answer b u true none (proving closed) big l.question h
    (walked→proved u q.head (working u.constraints []) (steps_with_child b) (q.constraints, tt) (steps_in_range h)
    (limits→walk u (steps b) l) walked)
    ).1

pub derivations_exact : Th2
derivations_exact work answer t u big proper limits =
    let h = proper_steps t u proper in
    (accepted→closes h, closes→accepted work answer t u big h limits)
  where
    accepted→closes : Holding t u true none → verdict work answer t ≡ NoSolution → Closes u u.constraints (steps t)
    accepted→closes h e =
        let (v, c) = accepted→closed children work answer t e in
        let same : v ≡ u = cc (claimed_asked c.held.claimed, claimed_asked h.claimed) in
        subst (λ w. Closes w w.constraints (steps t)) same (closed→closes t v c)

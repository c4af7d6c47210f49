-- Checking takes steps as the calculus walks over them: under claim 1 without fault exactly where they fit within the limits and close every branch, under
-- claim 2 exactly where the children taken lead to a leaf without fault.
use Prim.Native.Nat.{ℕ}
use native.Mathlib.Omega.{arith}
use mathlib.Core.Path.{◌≡◌, refl, sym, ◌∙◌, ap, ap₂, subst}
use mathlib.Core.Option.{Option, none, some}
use mathlib.Core.List.{List, [], ◌∷◌, ◌++◌, map}
use lib.ListN.{length}
use lib.IntN.{ℤ}
use Rattle.lists.specs.Lists.{All}
use Rattle.calculus.specs.Facts.{Question, Fact, Branch}
use Rattle.calculus.specs.Steps.{Step}
use Rattle.calculus.specs.Rules.{RuleSet}
use Rattle.calculus.specs.Instances.{Instance, IsStep}
use Rattle.calculus.specs.Walk.{Waiting, Walk, working, closed, enter}
use Rattle.calculus.specs.Derivations.{Takes}
use Rattle.calculus.specs.InRange.{HeadInRange, FactsInRange}
use Rattle.calculus.proofs.Fits.{fits→instance}
use Rattle.calculus.proofs.Leads.{Arrives, working_open}
use Rattle.calculus.proofs.Limits.{LimitsFrom, PathLimitsFrom}
use Rattle.calculus.proofs.Walks.{FitsBy, WalkedBy, Walked, StateInRange, step_in_range, child_taken_by, child_taken, FollowedBy, Followed, taken→takes, taken_in_range}
use Rattle.format.specs.Records.{need}
use Rattle.format.specs.Reading.{proving, taking, modelled, Method}
use Rattle.format.specs.Checking.{fits, or_none, all_tried, taken_tried, leaf_fault, checker_by, checker}
use Rattle.format.proofs.Behind.{Taken}
use Rattle.format.proofs.Limits.{limits→tried, limits→taken}

-- the steps without their child fields
abbrev pub bare : List (Step × ℕ) → List Step
bare ts = map (λ (t : Step × ℕ). t.0) ts

-- where 8 does not apply, there is what was looked for
pub fitting : {A : Type 0} (o : Option (List A)) (later : ℕ) → need 8 (fits o) later ≡ 0 → (c : List A) × (o ≡ some c) × (or_none o ≡ c)
fitting none later e = absurd (omega arith)
fitting (some c) later e = (c, refl, refl)

-- ---- claim 1

-- whatever the method, if the children that it takes without fault are found
pub taken_arrives : {B C : Type 0} (w : Method B C) (Found : B → Step → List C → Type 0)
    → ((b : B) (ss : List (Waiting B C)) (st : Step) → w.split_fault b ss st ≡ 0 → Found b st (w.children b st))
    → (k to : Walk B C) (ts : List (Step × ℕ)) (o : Option (List ℤ)) → Taken w (proving k) ts o (proving to) → Arrives Found w.add k (bare ts) to
unfolding Taken Arrives
taken_arrives w Found found k to [] none h = cc
taken_arrives w Found found k to [] (some m) h = absurd h
taken_arrives w Found found (working b ss) to (t ∷ ts) o (f, h) =
    (w.children b t.0, found b ss t.0 f, taken_arrives w Found found (enter w.add b (w.children b t.0) ss) to ts o h)
taken_arrives w Found found closed to (t ∷ ts) o h = absurd h

-- checking finds them by its rules
pub found_by : (rules : RuleSet) (u : Question) (b : Branch) (ss : List (Waiting Branch (List Fact))) (st : Step)
    → (checker_by rules u).split_fault b ss st ≡ 0
    → FitsBy rules u b st ((checker_by rules u).children b st)
found_by rules u b ss st f = let (cs, e, d) = fitting (rules u b st) _ f in e ∙ ap some (sym d)

pub proved→walked : (rules : RuleSet) (u : Question) (k : Walk Branch (List Fact)) (ts : List (Step × ℕ)) (o : Option (List ℤ))
    → Taken (checker_by rules u) (proving k) ts o (proving closed) → WalkedBy rules u k (bare ts)
proved→walked rules u k ts o h = taken_arrives (checker_by rules u) (FitsBy rules u) (found_by rules u) k closed ts o h

module _ (u : Question) (w : HeadInRange u) where
  pub walked→proved : (k : Walk Branch (List Fact)) (ts : List (Step × ℕ))
      → StateInRange u k
      → All (λ t. IsStep u t.0) ts
      → LimitsFrom u k (bare ts)
      → Walked u k (bare ts)
      → Taken (checker u) (proving k) ts none (proving closed)
  unfolding Taken Arrives LimitsFrom
  walked→proved (working b ss) [] r g l h = working_open b ss h
  walked→proved closed [] r g l h = refl
  walked→proved (working b ss) (t ∷ ts) r (g, gs) l (cs, e, h) =
      let i : Instance u b t.0 cs = fits→instance u w b r.0 t.0 g e in
      let (here, later) = l cs i in
      let next = walked→proved (enter ◌++◌ b cs ss) ts (step_in_range u w b t.0 cs ss r g i) gs later h in (
        ap (all_tried b (length ss)) e ∙ limits→tried b (length ss) cs here,
        subst (λ ds. Taken (checker u) (proving (enter ◌++◌ b ds ss)) ts none (proving closed)) (sym (ap or_none e)) next,
      )
  walked→proved closed (t ∷ ts) r g l h = absurd h

-- ---- claim 2

-- whatever the rules
pub taken→reached : (rules : RuleSet) (u : Question) (b leaf : Branch) (m : List ℤ) (ts : List (Step × ℕ)) (o : Option (List ℤ))
    → Taken (checker_by rules u) (taking b) ts o (modelled leaf m) → FollowedBy rules u b ts leaf × (leaf_fault u leaf m ≡ 0)
unfolding Taken FollowedBy
taken→reached rules u b leaf m [] none h = absurd (let z : ◌≡◌ {A = ℕ} 0 1 = cc in omega arith)
taken→reached rules u b leaf m [] (some v) (f, h) =
    let same : b ≡ leaf = cc in
    let values : v ≡ m = cc in
    (same, sym (ap₂ (leaf_fault u) same values) ∙ f)
taken→reached rules u b leaf m (t ∷ ts) o (f, h) =
    let (c, e, d) = fitting (child_taken_by rules u b t) _ f in
    let (followed, no_fault) = taken→reached rules u (b ++ c) leaf m ts o (subst (λ x. Taken (checker_by rules u) (taking (b ++ x)) ts o (modelled leaf m)) d h) in
    ((c, e, followed), no_fault)

module _ (u : Question) (w : HeadInRange u) where
  pub followed→taken : (b leaf : Branch) (m : List ℤ) (ts : List (Step × ℕ))
      → FactsInRange u b
      → All (λ t. IsStep u t.0) ts
      → PathLimitsFrom u b ts
      → Followed u b ts leaf
      → leaf_fault u leaf m ≡ 0
      → Taken (checker u) (taking b) ts (some m) (modelled leaf m)
  unfolding Taken FollowedBy PathLimitsFrom
  followed→taken b leaf m [] r g l h f = (ap (λ d. leaf_fault u d m) h ∙ f, ap (λ d. modelled d m) h)
  followed→taken b leaf m (t ∷ ts) r (g, gs) l (c, e, h) f =
      let k : Takes u b t c = taken→takes u w b t c r g e in
      let (here, later) = l c k in
      let d : child_taken u b t ≡ some c = e in (
        ap (taken_tried b) d ∙ limits→taken b c here,
        subst (λ x. Taken (checker u) (taking (b ++ x)) ts (some m) (modelled leaf m)) (sym (ap or_none d))
            (followed→taken (b ++ c) leaf m ts (taken_in_range u w b t c r g k) gs later h f),
      )

-- Every accepted ticket is of proper form and within the limits, so that Th2 and Th6 speak of it.
use Prim.Native.Nat.{ℕ}
use mathlib.Core.Path.{◌≡◌, refl, sym, ◌∙◌, ap, subst}
use mathlib.Core.Bool.{true, false}
use mathlib.Core.Option.{Option, none, some}
use mathlib.Core.List.{List, [], ◌∷◌, ◌++◌, map}
use lib.ListN.{length}
use lib.IntN.{ℤ}
use Rattle.lists.specs.Lists.{All}
use Rattle.calculus.specs.Facts.{Question, Fact, Branch}
use Rattle.calculus.specs.Steps.{Step}
use Rattle.calculus.specs.Rules.{children}
use Rattle.calculus.specs.Instances.{Instance, IsStep}
use Rattle.calculus.specs.Walk.{Waiting, Walk, working, closed, enter}
use Rattle.calculus.specs.Meaning.{Assignment}
use Rattle.calculus.specs.Derivations.{SplitLimits, ChildLimits, WithinLimits, Takes, PathWithinLimits}
use Rattle.calculus.specs.InRange.{HeadInRange, FactsInRange}
use Rattle.calculus.proofs.Fits.{fits→instance, instance→fits}
use Rattle.calculus.proofs.Shapes.{count, shape_walks, shape_takes}
use Rattle.calculus.proofs.Limits.{LimitsFrom, walk→limits, PathLimitsFrom, path→limits}
use Rattle.calculus.proofs.Walks.{StateInRange, step_in_range, child_taken, taken→takes, takes→taken, taken_in_range}
use Rattle.format.specs.Reading.{State, proving, taking, modelled, stepped}
use Rattle.format.specs.Checking.{all_tried, taken_tried, checker, NoSolution, verdict}
use Rattle.format.specs.ProperForm.{by_shape, ProperNoSolution, ProperStrings, steps, steps_with_child}
use Rattle.format.specs.Needs.{states_met}
use Rattle.format.specs.Demands.{Th6Covers}
use Rattle.format.proofs.Behind.{Taken}
use Rattle.format.proofs.Claimed.{claimed_in_range}
use Rattle.format.proofs.Tickets.{steps_in_range, →proper}
use Rattle.format.proofs.Limits.{tried→limits, taken→limits}
use Rattle.format.proofs.Checker.{bare, fitting}
use Rattle.format.proofs.NoSolution.{accepted→closed}
use Rattle.format.proofs.Strings.{Given, accepted→given}

-- ---- what checking takes is taken over shapes, every state counted

-- the numbers of facts in a state
abbrev pub count_state : State Branch (List Fact) → State ℕ ℕ
count_state (proving k) = proving (count k)
count_state (taking b) = taking (length b)
count_state (modelled b m) = modelled (length b) m

module _ (u : Question) where
  split_counted : (b : Branch) (ss : List (Waiting Branch (List Fact))) (t : Step × ℕ)
      → all_tried b (length ss) (children u b t.0) ≡ 0
      → count_state (stepped (checker u) (proving (working b ss)) t) ≡ stepped (by_shape u) (count_state (proving (working b ss))) t
  split_counted b ss t f =
      let (cs, e, d) = fitting (children u b t.0) _ f in
      ap (λ ds. proving (count (enter ◌++◌ b ds ss))) d ∙ ap proving (shape_walks u b t.0 cs ss e)

  taken_counted : (b : Branch) (t : Step × ℕ)
      → taken_tried b (child_taken u b t) ≡ 0
      → count_state (stepped (checker u) (taking b) t) ≡ stepped (by_shape u) (taking (length b)) t
  taken_counted b t f =
      let (c, e, d) = fitting (child_taken u b t) _ f in
      ap (λ x. taking (length (b ++ x))) d ∙ ap taking (shape_takes u b t c e)

  abbrev Counted : State Branch (List Fact) → State ℕ ℕ → List (Step × ℕ) → Option (List ℤ) → State Branch (List Fact) → Type 0
  Counted s k ts o s' = Taken (by_shape u) k ts o (count_state s') × (states_met (by_shape u) k ts ≡ map count_state (states_met (checker u) s ts))

  pub all_counted : (s : State Branch (List Fact)) (ts : List (Step × ℕ)) (o : Option (List ℤ)) (s' : State Branch (List Fact))
      → Taken (checker u) s ts o s'
      → Counted s (count_state s) ts o s'
  unfolding Taken states_met
  all_counted s [] none s' e = (ap count_state e, refl)
  all_counted (proving k) [] (some m) s' h = absurd h
  all_counted (taking b) [] (some m) s' (_, e) = ((refl, ap count_state e), refl)
  all_counted (modelled b v) [] (some m) s' h = absurd h
  all_counted (proving (working b ss)) (t ∷ ts) o s' (f, h) =
      let next : State Branch (List Fact) = stepped (checker u) (proving (working b ss)) t in
      let (n, m) = subst (λ k. Counted next k ts o s') (split_counted b ss t f) (all_counted next ts o s' h) in
      ((refl, n), ap (λ l. count_state (proving (working b ss)) ∷ l) m)
  all_counted (proving closed) (t ∷ ts) o s' h = absurd h
  all_counted (taking b) (t ∷ ts) o s' (f, h) =
      let next : State Branch (List Fact) = stepped (checker u) (taking b) t in
      let (n, m) = subst (λ k. Counted next k ts o s') (taken_counted b t f) (all_counted next ts o s' h) in
      ((refl, n), ap (λ l. taking (length b) ∷ l) m)
  all_counted (modelled b v) (t ∷ ts) o s' h = absurd h

-- ---- and is within the limits

module _ (u : Question) (w : HeadInRange u) where
  proved→limits : (k : Walk Branch (List Fact)) (ts : List (Step × ℕ))
      → StateInRange u k
      → All (λ t. IsStep u t.0) ts
      → Taken (checker u) (proving k) ts none (proving closed)
      → LimitsFrom u k (bare ts)
  unfolding Taken LimitsFrom
  proved→limits k [] r g h = tt
  proved→limits (working b ss) (t ∷ ts) r (g, gs) (f, h) =
      let (cs, e, d) = fitting (children u b t.0) _ f in
      let i : Instance u b t.0 cs = fits→instance u w b r.0 t.0 g e in
      let later =
      proved→limits (enter ◌++◌ b cs ss) ts (step_in_range u w b t.0 cs ss r g i) gs
      (subst (λ ds. Taken (checker u) (proving (enter ◌++◌ b ds ss)) ts none (proving closed)) d h) in
      λ ds j.
      let same : cs ≡ ds = cc (e, instance→fits u w b r.0 t.0 g j) in
      subst (λ ds. SplitLimits b (length ss) ds × LimitsFrom u (enter ◌++◌ b ds ss) (bare ts)) same
      (tried→limits b (length ss) cs (ap (all_tried b (length ss)) (sym e) ∙ f), later)
  proved→limits closed (t ∷ ts) r g h = absurd h

  followed→limits : (b leaf : Branch) (m : List ℤ) (ts : List (Step × ℕ))
      → FactsInRange u b
      → All (λ t. IsStep u t.0) ts
      → Taken (checker u) (taking b) ts (some m) (modelled leaf m)
      → PathLimitsFrom u b ts
  unfolding Taken PathLimitsFrom
  followed→limits b leaf m [] r g h = tt
  followed→limits b leaf m (t ∷ ts) r (g, gs) (f, h) =
      let (c, e, d) = fitting (child_taken u b t) _ f in
      let k : Takes u b t c = taken→takes u w b t c r g e in
      let later =
      followed→limits (b ++ c) leaf m ts (taken_in_range u w b t c r g k) gs
      (subst (λ x. Taken (checker u) (taking (b ++ x)) ts (some m) (modelled leaf m)) d h) in
      λ c' k'.
      let same : c ≡ c' = cc (e, takes→taken u w b t c' r g k') in
      subst (λ x. ChildLimits b x × PathLimitsFrom u (b ++ x) ts) same (taken→limits b c (ap (taken_tried b) (sym e) ∙ f), later)

-- ---- accepted tickets

pub no_solution_proper : (work answer : ℕ) (t : List ℕ) → verdict work answer t ≡ NoSolution → (u : Question) × ProperNoSolution t u × WithinLimits u (steps t)
no_solution_proper work answer t e =
    let (u, c) = accepted→closed children work answer t e in
    let q = claimed_in_range c.held.claimed in
    let (n, _) = all_counted u (proving (working u.constraints [])) (steps_with_child t) none (proving closed) c.taken in
    let l = proved→limits u q.head (working u.constraints []) (steps_with_child t) (q.constraints, tt) (steps_in_range c.held) c.taken in
    let (r, done) = →proper t u true none c.held n in
    (u, (closed, r, done), record { question = c.few; steps = walk→limits u (steps t) l })

pub given_proper : (t : List ℕ) (u : Question) (a : Assignment) (k : Given children t u a) → ProperStrings t u k.model × PathWithinLimits u (steps_with_child t)
given_proper t u a k =
    let q = claimed_in_range k.held.claimed in
    let (n, _) = all_counted u (taking u.constraints) (steps_with_child t) (some k.model) (modelled k.leaf k.model) k.taken in
    let l = followed→limits u q.head u.constraints k.leaf k.model (steps_with_child t) q.constraints (steps_in_range k.held) k.taken in
    let (r, done) = →proper t u false (some k.model) k.held n in
    ((length k.leaf, r, done), record { question = k.few; steps = path→limits u (steps_with_child t) l })

pub strings_proper : Th6Covers
strings_proper work answer t a e =
    let (u, k) = accepted→given children work answer t a e in
    let (proper, limits) = given_proper t u a k in
    (u, k.model, proper, limits)

-- Trees of steps and the walk over them, whatever a branch and a child are: steps close a branch exactly when the walk that begins on it ends closed, and lead to
-- an open branch exactly when it arrives there, with as many splits pending.
use Prim.Native.Nat.{ℕ, ◌+◌}
use native.Mathlib.Omega.{arith}
use mathlib.Core.Path.{◌≡◌, refl, sym, ◌∙◌, ap, subst}
use mathlib.Core.Logic.{◌⊎◌, inl, inr}
use mathlib.Core.List.{List, [], ◌∷◌, ◌++◌, append-nil, append_assoc}
use lib.ListN.{length, length-append}
use Rattle.lists.specs.Lists.{All}
use Rattle.calculus.specs.Steps.{Step}
use Rattle.calculus.specs.Walk.{Waiting, Walk, working, closed, wait, cut_back, enter}
use Rattle.calculus.specs.Derivations.{ClosedBy, by, AllClosedBy, none_left, child, pending_for, LeadsBy, here, into}
use Rattle.calculus.proofs.Everywhere.{Everywhere, enter_everywhere}

-- the steps are a first part with P, and a rest with Q
abbrev Parts : (List Step → Type 0) → (List Step → Type 0) → List Step → Type 0
Parts P Q s = (f : List Step) × (r : List Step) × (s ≡ f ++ r) × P f × Q r

-- an open branch is not closed
pub working_open : {B C X : Type 0} (b : B) (ss : List (Waiting B C)) → working b ss ≡ closed → X
working_open b ss e = absurd (let z : ◌≡◌ {A = ℕ} 0 1 = cc in omega arith)

module _ {B C : Type 0} (Fits : B → Step → List C → Type 0) (add : B → C → B) where
  abbrev Pending : Type 0
  Pending = List (Waiting B C)

  -- the steps fit one after another, and take the walk from one state to another
  unfoldable pub Arrives : Walk B C → List Step → Walk B C → Type 0
  Arrives k [] k' = k ≡ k'
  Arrives closed (st ∷ sts) k' = ⊥
  Arrives (working b ss) (st ∷ sts) k' = (cs : List C) × Fits b st cs × Arrives (enter add b cs ss) sts k'

  pub arrives_append : (k k' k'' : Walk B C) (f r : List Step) → Arrives k f k' → Arrives k' r k'' → Arrives k (f ++ r) k''
  unfolding Arrives
  arrives_append k k' k'' [] r h g = subst (λ k. Arrives k r k'') (sym h) g
  arrives_append closed k' k'' (st ∷ f) r h g = absurd h
  arrives_append (working b ss) k' k'' (st ∷ f) r (cs, i, h) g = (cs, i, arrives_append (enter add b cs ss) k' k'' f r h g)

  cut_back_wait : (b : B) (cs : List C) (ss : Pending) → cut_back add (wait b cs ss) ≡ enter add b cs ss
  cut_back_wait b [] ss = refl
  cut_back_wait b (c ∷ cs) ss = refl

  -- ---- a tree is a walk

  mutual
    unfolding Arrives

    closed_arrives : {b : B} {sts : List Step} → ClosedBy Fits add b sts → (ss : Pending) → Arrives (working b ss) sts (cut_back add ss)
    closed_arrives (by {b = b} {cs = cs} {sts = sts} i k) ss =
        (cs, i, subst (λ l. Arrives (enter add b l ss) sts (cut_back add ss)) (append-nil cs) (children_arrive k [] ss))

    -- the children before are closed, and the walk begins the next one
    children_arrive : {b : B} {before : List C} {sts : List Step} → AllClosedBy Fits add b before sts → (after : List C) (ss : Pending)
        → Arrives (enter add b (before ++ after) ss) sts (enter add b after ss)
    children_arrive none_left after ss = refl
    children_arrive (child {b = b} {c = c} {cs = cs} {first = f} {others = r} d k ks) after ss =
        let next : Walk B C = enter add b (cs ++ after) ss in
        let one : Arrives (working (add b c) (wait b (cs ++ after) ss)) f next =
        subst (Arrives (working (add b c) (wait b (cs ++ after) ss)) f) (cut_back_wait b (cs ++ after) ss) (closed_arrives k (wait b (cs ++ after) ss)) in
        subst (λ s. Arrives (working (add b c) (wait b (cs ++ after) ss)) s (enter add b after ss)) (sym d)
        (arrives_append (working (add b c) (wait b (cs ++ after) ss)) next (enter add b after ss) f r one (children_arrive ks after ss))

  wait_append : (b : B) (cs : List C) (ss : Pending) → wait b cs [] ++ ss ≡ wait b cs ss
  wait_append b [] ss = refl
  wait_append b (c ∷ cs) ss = refl

  length_wait : (b : B) (cs : List C) (ss : Pending) → length (wait b cs ss) ≡ pending_for cs + length ss
  length_wait b [] ss = omega arith
  length_wait b (c ∷ cs) ss = omega arith

  -- above the splits that were pending
  leads_arrives : {b leaf : B} {sts : List Step} {pending : ℕ} → LeadsBy Fits add b sts leaf pending → (ss : Pending)
      → (more : Pending) × (length more ≡ pending) × Arrives (working b ss) sts (working leaf (more ++ ss))
  unfolding Arrives
  leads_arrives here ss = ([], refl, refl)
  leads_arrives (into {b = b} {leaf = leaf} {cs = cs} {sts = sts} before c after first others i e d k l) ss =
      let (more, n, h) = leads_arrives l (wait b after ss) in
      let on : Walk B C = working (add b c) (wait b after ss) in
      let pended : more ++ wait b after ss ≡ (more ++ wait b after []) ++ ss =
      ap (λ w. more ++ w) (sym (wait_append b after ss)) ∙ sym (append_assoc more (wait b after []) ss) in
      let to : Walk B C = working leaf ((more ++ wait b after []) ++ ss) in
      let all = arrives_append (enter add b (before ++ (c ∷ after)) ss) on to first others (children_arrive k (c ∷ after) ss)
      (subst (λ w. Arrives on others (working leaf w)) pended h) in (
        more ++ wait b after [],
        omega (arith, n, length-append more (wait b after []), length_wait b after []),
        (cs, i, subst (λ l. Arrives (enter add b l ss) sts to) (sym e) (subst (λ s. Arrives (enter add b (before ++ (c ∷ after)) ss) s to) (sym d) all)),
      )

  -- ---- a walk is a tree

  module _ (to : Walk B C) where
    -- the walk ends on a branch that the steps lead to from b, above the k splits that were pending
    abbrev EndsWithin : B → ℕ → List Step → Walk B C → Type 0
    EndsWithin b k sts closed = ⊥
    EndsWithin b k sts (working leaf ss) = (pending : ℕ) × (length ss ≡ pending + k) × LeadsBy Fits add b sts leaf pending

    -- it ends closed, with no step left
    abbrev EndsClosed : List Step → Walk B C → Type 0
    EndsClosed sts closed = sts ≡ []
    EndsClosed sts (working leaf ss) = ⊥

    -- it ends below one of the children, those before it closed
    abbrev EndsBelow : B → List C → ℕ → List Step → Type 0
    EndsBelow b cs k sts = (before : List C) × (c : C) × (after : List C) × (cs ≡ before ++ (c ∷ after))
        × Parts (AllClosedBy Fits add b before) (λ r. EndsWithin (add b c) (pending_for after + k) r to) sts

    -- or all children are closed, and the rest ends as R says
    abbrev EndsAfter : (List Step → Type 0) → B → List C → ℕ → List Step → Type 0
    EndsAfter R b cs k sts = EndsBelow b cs k sts ⊎ Parts (AllClosedBy Fits add b cs) R sts

    abbrev EndsWaiting : Pending → List Step → Type 0
    EndsWaiting [] sts = EndsClosed sts to
    EndsWaiting (p ∷ ps) sts = EndsAfter (EndsWaiting ps) p.mark (p.child ∷ p.rest) (length ps) sts

    abbrev EndsChildren : B → List C → Pending → List Step → Type 0
    EndsChildren b cs ss sts = EndsAfter (EndsWaiting ss) b cs (length ss) sts

    abbrev Ends : Walk B C → List Step → Type 0
    Ends (working b ss) sts = EndsWithin b (length ss) sts to ⊎ Parts (ClosedBy Fits add b) (EndsWaiting ss) sts
    Ends closed sts = EndsClosed sts to

    pop : (b : B) (cs : List C) (ss : Pending) (s : List Step) → EndsWaiting (wait b cs ss) s → EndsChildren b cs ss s
    pop b [] ss s h = inr ([], s, refl, none_left, h)
    pop b (c ∷ cs) ss s h = h

    -- a child closed before those in which it ends
    after_closed : (b : B) (c : C) (cs : List C) (ss : Pending) (f s : List Step)
        → ClosedBy Fits add (add b c) f
        → EndsChildren b cs ss s
        → EndsChildren b (c ∷ cs) ss (f ++ s)
    after_closed b c cs ss f s k (inl (before, c', after, e, (g, r, d, ks, h))) =
        inl (c ∷ before, c', after, ap (λ l. c ∷ l) e, (f ++ g, r, ap (λ l. f ++ l) d ∙ sym (append_assoc f g r), child refl k ks, h))
    after_closed b c cs ss f s k (inr (g, r, d, ks, h)) = inr (f ++ g, r, ap (λ l. f ++ l) d ∙ sym (append_assoc f g r), child refl k ks, h)

    joined : (b : B) (c : C) (cs : List C) (ss : Pending) (s : List Step) → Ends (working (add b c) (wait b cs ss)) s → EndsChildren b (c ∷ cs) ss s
    joined b c cs ss s (inl h) = inl ([], c, cs, refl, ([], s, refl, none_left, subst (λ k. EndsWithin (add b c) k s to) (length_wait b cs ss) h))
    joined b c cs ss s (inr (f, r, d, k, h)) = subst (EndsChildren b (c ∷ cs) ss) (sym d) (after_closed b c cs ss f r k (pop b cs ss r h))

    cut_back_ends : (ss : Pending) (s : List Step) → Ends (cut_back add ss) s → EndsWaiting ss s
    cut_back_ends [] s h = h
    cut_back_ends (p ∷ ps) s h = joined p.mark p.child p.rest ps s h

    entered : (b : B) (cs : List C) (ss : Pending) (s : List Step) → Ends (enter add b cs ss) s → EndsChildren b cs ss s
    entered b [] ss s h = inr ([], s, refl, none_left, cut_back_ends ss s h)
    entered b (c ∷ cs) ss s h = joined b c cs ss s h

    -- a step before the children in which it ends
    below : (b : B) (st : Step) (cs : List C) (k : ℕ) (s : List Step) → Fits b st cs → EndsBelow b cs k s → (w : Walk B C) → to ≡ w → EndsWithin b k (st ∷ s) w
    below b st cs k s i (before, c, after, e, (f, r, d, ks, h)) closed q = subst (EndsWithin (add b c) (pending_for after + k) r) q h
    below b st cs k s i (before, c, after, e, (f, r, d, ks, h)) (working leaf ss) q =
        let (pending, n, l) = subst (EndsWithin (add b c) (pending_for after + k) r) q h in
        (pending_for after + pending, omega (arith, n), into before c after f r i e d ks l)

    step_ends : (b : B) (st : Step) (cs : List C) (ss : Pending) (s : List Step) → Fits b st cs → EndsChildren b cs ss s → Ends (working b ss) (st ∷ s)
    step_ends b st cs ss s i (inl h) = inl (below b st cs (length ss) s i h to refl)
    step_ends b st cs ss s i (inr (f, r, d, ks, h)) = inr (st ∷ f, r, ap (λ l. st ∷ l) d, by i ks, h)

  nothing_left : (k : Walk B C) → Ends k k []
  nothing_left (working b ss) = inl (0, omega arith, here)
  nothing_left closed = refl

  arrives_ends : (k to : Walk B C) (sts : List Step) → Arrives k sts to → Ends to k sts
  unfolding Arrives
  arrives_ends k to [] h = subst (λ to. Ends to k []) h (nothing_left k)
  arrives_ends closed to (st ∷ sts) h = absurd h
  arrives_ends (working b ss) to (st ∷ sts) (cs, i, h) = step_ends to b st cs ss sts i (entered to b cs ss sts (arrives_ends (enter add b cs ss) to sts h))

  -- ---- from a branch, with nothing pending

  pub closed→walk : (b : B) (sts : List Step) → ClosedBy Fits add b sts → Arrives (working b []) sts closed
  closed→walk b sts k = closed_arrives k []

  pub walk→closed : (b : B) (sts : List Step) → Arrives (working b []) sts closed → ClosedBy Fits add b sts
  walk→closed b sts h = go (arrives_ends (working b []) closed sts h)
    where
      go : Ends closed (working b []) sts → ClosedBy Fits add b sts
      go (inl z) = absurd z
      go (inr (f, r, d, k, e)) = subst (ClosedBy Fits add b) (sym (d ∙ ap (λ l. f ++ l) e ∙ append-nil f)) k

  pub leads→walk : (b leaf : B) (sts : List Step) (pending : ℕ) → LeadsBy Fits add b sts leaf pending
      → (ss : Pending) × (length ss ≡ pending) × Arrives (working b []) sts (working leaf ss)
  leads→walk b leaf sts pending l =
      let (ss, n, h) = leads_arrives l [] in
      (ss, n, subst (λ w. Arrives (working b []) sts (working leaf w)) (append-nil ss) h)

  pub walk→leads : (b leaf : B) (sts : List Step) (ss : Pending) → Arrives (working b []) sts (working leaf ss) → LeadsBy Fits add b sts leaf (length ss)
  walk→leads b leaf sts ss h = go (arrives_ends (working b []) (working leaf ss) sts h)
    where
      go : Ends (working leaf ss) (working b []) sts → LeadsBy Fits add b sts leaf (length ss)
      go (inl (pending, n, l)) = subst (LeadsBy Fits add b sts leaf) (let e : pending ≡ length ss = omega (arith, n) in e) l
      go (inr (f, r, d, k, z)) = absurd z

  -- ---- what is kept along a walk

  module _ (P : B → Type 0) (Q : Step → Type 0) (kept : (b : B) (st : Step) (cs : List C) → P b → Q st → Fits b st cs → All (λ c. P (add b c)) cs) where
    pub arrives_everywhere : (k to : Walk B C) (sts : List Step) → Everywhere add P k → All Q sts → Arrives k sts to → Everywhere add P to
    unfolding Arrives
    arrives_everywhere k to [] r q h = subst (Everywhere add P) h r
    arrives_everywhere closed to (st ∷ sts) r q h = absurd h
    arrives_everywhere (working b ss) to (st ∷ sts) (r, rs) (q, qs) (cs, i, h) =
        arrives_everywhere (enter add b cs ss) to sts (enter_everywhere add P b cs ss (kept b st cs r q i) rs) qs h

-- a walk by one way of fitting is one by another, where the one gives the other
pub arrives_as : {B C : Type 0} (Fits Others : B → Step → List C → Type 0) (add : B → C → B) (P : B → Type 0) (Q : Step → Type 0)
    → ((b : B) (st : Step) (cs : List C) → P b → Q st → Fits b st cs → All (λ c. P (add b c)) cs)
    → ((b : B) (st : Step) (cs : List C) → P b → Q st → Fits b st cs → Others b st cs)
    → (k to : Walk B C) (sts : List Step) → Everywhere add P k → All Q sts → Arrives Fits add k sts to → Arrives Others add k sts to
unfolding Arrives
arrives_as Fits Others add P Q kept as-other k to [] r q h = h
arrives_as Fits Others add P Q kept as-other closed to (st ∷ sts) r q h = absurd h
arrives_as Fits Others add P Q kept as-other (working b ss) to (st ∷ sts) (r, rs) (q, qs) (cs, i, h) = (
  cs,
  as-other b st cs r q i,
  arrives_as Fits Others add P Q kept as-other (enter add b cs ss) to sts (enter_everywhere add P b cs ss (kept b st cs r q i) rs) qs h,
)

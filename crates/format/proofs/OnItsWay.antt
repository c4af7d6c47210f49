-- What a method meets on its way, over the branches that first steps lead to: the greatest numbers of the states met are those of the tree or of the path.
use Prim.Native.Nat.{ℕ, ◌≤◌, max}
use native.Mathlib.Omega.{arith}
use native.Mathlib.Decide.{dec_le}
use native.Mathlib.Nat.{le_trans, le-max_left, le-max_right, max-zero, max-eq_left, max-eq_right}
use mathlib.Core.Path.{◌≡◌, refl, sym, ◌∙◌, ap, subst}
use mathlib.Core.Logic.{◌⊎◌, inl, inr}
use mathlib.Core.Option.{Option, none}
use mathlib.Core.List.{List, [], ◌∷◌, ◌++◌, map, map-append, map-id}
use lib.ListN.{length, length-map}
use lib.IntN.{ℤ}
use Rattle.lists.specs.Lists.{maximum}
use Rattle.lists.proofs.Lists.{map_split}
use Rattle.calculus.specs.Steps.{Step}
use Rattle.calculus.specs.Walk.{Waiting, Walk, working, closed, enter}
use Rattle.calculus.specs.Derivations.{LeadsBy, here}
use Rattle.calculus.proofs.Leads.{Arrives, leads→walk, walk→leads}
use Rattle.format.specs.Reading.{State, proving, taking, Method, stepped}
use Rattle.format.specs.Needs.{states_met, facts_in, pending_in, report}
use Rattle.format.specs.Demands.{OnItsWay}
use Rattle.format.proofs.Behind.{Taken}
use Rattle.format.proofs.Checker.{bare, taken_arrives}

module _ {B C : Type 0} (w : Method B C) where
  -- the state after some steps
  abbrev pub steps_taken : State B C → List (Step × ℕ) → State B C
  steps_taken s [] = s
  steps_taken s (t ∷ ts) = steps_taken (stepped w s t) ts

  -- ---- the greatest number of the states met

  module _ (f : State B C → ℕ) where
    none_beyond : (s : State B C) (first others : List (Step × ℕ)) → f (steps_taken s first) ≤ maximum (map f (states_met w s (first ++ others)))
    unfolding states_met
    none_beyond s [] [] = le-max_left (f s) 0
    none_beyond s [] (t ∷ others) = le-max_left (f s) _
    none_beyond s (t ∷ first) others = le_trans (none_beyond (stepped w s t) first others) (le-max_right (f s) _)

    one_reaches : (s : State B C) (ts : List (Step × ℕ))
        → (first : List (Step × ℕ)) × (others : List (Step × ℕ)) × (ts ≡ first ++ others) × (f (steps_taken s first) ≡ maximum (map f (states_met w s ts)))
    unfolding states_met
    one_reaches s [] = ([], [], refl, sym (max-zero (f s)))
    one_reaches s (t ∷ ts) = go (dec_le rest (f s)) (one_reaches (stepped w s t) ts)
      where
        rest : ℕ
        rest = maximum (map f (states_met w (stepped w s t) ts))

        go : Dec (rest ≤ f s)
            → (first : List (Step × ℕ)) × (others : List (Step × ℕ)) × (ts ≡ first ++ others) × (f (steps_taken (stepped w s t) first) ≡ rest)
            → (first : List (Step × ℕ)) × (others : List (Step × ℕ)) × (t ∷ ts ≡ first ++ others) × (f (steps_taken s first) ≡ max (f s) rest)
        go (yes h) later = ([], t ∷ ts, refl, sym (max-eq_left h))
        go (no h) (first, others, e, z) = (t ∷ first, others, ap (λ l. t ∷ l) e, z ∙ sym (max-eq_right (omega arith)))

  -- ---- the numbers of a report, where the open branches are those of the states

  module _ {A : Type 0} (g : Step × ℕ → A) (Open : List A → ℕ → ℕ → Type 0) (count : B → ℕ) (s : State B C) (ts : List (Step × ℕ)) where
    abbrev facts : List (Step × ℕ) → ℕ
    facts first = facts_in count (steps_taken s first)

    abbrev pending : List (Step × ℕ) → ℕ
    pending first = pending_in (steps_taken s first)

    -- first steps lead to an open branch with the state's numbers, or all branches are closed
    abbrev pub Opens : Type 0
    Opens = (first others : List (Step × ℕ)) → ts ≡ first ++ others
        → Open (map g first) (facts first) (pending first) ⊎ ((facts first ≡ 0) × (pending first ≡ 0))

    -- and the numbers of an open branch are the state's
    abbrev pub Counts : Type 0
    Counts = (first others : List (Step × ℕ)) → ts ≡ first ++ others → (m k : ℕ) → Open (map g first) m k → (facts first ≡ m) × (pending first ≡ k)

    pub on_its_way : Open [] (facts []) (pending []) → Opens → Counts → OnItsWay Open (map g ts) (report count w s ts)
    on_its_way root opens counts = record {
      steps_are = sym (length-map ts g);
      none_above = λ f r e m k o.
          let (h, l, d, q) = map_split g ts f r e in
          let (em, ek) = counts h l d m k (subst (λ f. Open f m k) (sym q) o) in
          (above (facts_in count) h l d m em, above pending_in h l d k ek);
      facts_reached = let (f, r, e, z) = one_reaches (facts_in count) s ts in facts_there f r e z (opens f r e);
      pending_reached = let (f, r, e, z) = one_reaches pending_in s ts in pending_there f r e z (opens f r e);
    }
      where
        above : (n : State B C → ℕ) (h l : List (Step × ℕ)) → ts ≡ h ++ l → (m : ℕ) → n (steps_taken s h) ≡ m → m ≤ maximum (map n (states_met w s ts))
        above n h l d m e = subst (λ k. k ≤ maximum (map n (states_met w s ts))) e
            (subst (λ l. n (steps_taken s h) ≤ maximum (map n (states_met w s l))) (sym d) (none_beyond n s h l))

        -- where all is closed, the greatest is 0, and the root has it
        least : (n : State B C → ℕ) (f : List (Step × ℕ)) → n (steps_taken s f) ≡ maximum (map n (states_met w s ts)) → n (steps_taken s f) ≡ 0
            → n s ≡ maximum (map n (states_met w s ts))
        least n f z e = let low : n s ≤ maximum (map n (states_met w s ts)) = none_beyond n s [] ts in omega arith

        split : (f r : List (Step × ℕ)) → ts ≡ f ++ r → map g ts ≡ map g f ++ map g r
        split f r e = ap (map g) e ∙ map-append g f r

        facts_there : (f r : List (Step × ℕ)) → ts ≡ f ++ r → facts f ≡ maximum (map (facts_in count) (states_met w s ts))
            → Open (map g f) (facts f) (pending f) ⊎ ((facts f ≡ 0) × (pending f ≡ 0))
            → (f : List A) × (r : List A) × (k : ℕ) × (map g ts ≡ f ++ r) × Open f (maximum (map (facts_in count) (states_met w s ts))) k
        facts_there f r e z (inl o) = (map g f, map g r, pending f, split f r e, subst (λ m. Open (map g f) m (pending f)) z o)
        facts_there f r e z (inr (c, _)) = ([], map g ts, pending [], refl, subst (λ m. Open [] m (pending [])) (least (facts_in count) f z c) root)

        pending_there : (f r : List (Step × ℕ)) → ts ≡ f ++ r → pending f ≡ maximum (map pending_in (states_met w s ts))
            → Open (map g f) (facts f) (pending f) ⊎ ((facts f ≡ 0) × (pending f ≡ 0))
            → (f : List A) × (r : List A) × (m : ℕ) × (map g ts ≡ f ++ r) × Open f m (maximum (map pending_in (states_met w s ts)))
        pending_there f r e z (inl o) = (map g f, map g r, facts f, split f r e, subst (Open (map g f) (facts f)) z o)
        pending_there f r e z (inr (_, c)) = ([], map g ts, facts [], refl, subst (Open [] (facts [])) (least pending_in f z c) root)

  -- ---- claim 1

  -- the children that the method takes
  abbrev pub Own : B → Step → List C → Type 0
  Own b st cs = cs ≡ w.children b st

  pub walk_taken : (k to : Walk B C) (ts : List (Step × ℕ)) → Arrives Own w.add k (bare ts) to → steps_taken (proving k) ts ≡ proving to
  unfolding Arrives
  walk_taken k to [] h = ap proving h
  walk_taken closed to (t ∷ ts) h = absurd h
  walk_taken (working b ss) to (t ∷ ts) (cs, e, h) =
      ap (λ cs. steps_taken (proving (enter w.add b cs ss)) ts) (sym e) ∙ walk_taken (enter w.add b cs ss) to ts h

  -- first steps are taken too
  taken_first : (k : Walk B C) (first others : List (Step × ℕ)) (o : Option (List ℤ)) (s : State B C) → Taken w (proving k) (first ++ others) o s
      → (to : Walk B C) × (steps_taken (proving k) first ≡ proving to) × Taken w (proving k) first none (proving to)
  unfolding Taken
  taken_first k [] others o s h = (k, refl, refl)
  taken_first closed (t ∷ first) others o s h = absurd h
  taken_first (working b ss) (t ∷ first) others o s (f, h) =
      let (to, z, a) = taken_first (enter w.add b (w.children b t.0) ss) first others o s h in
      (to, z, (f, a))

  -- by steps that fit, where the method finds fitting children and the children that fit are its own
  module _ (Fits Found : B → Step → List C → Type 0) (Open : List Step → ℕ → ℕ → Type 0) (count : B → ℕ) (b : B) (ts : List (Step × ℕ))
      (opened : (sts : List Step) (leaf : B) (k : ℕ) → LeadsBy Fits w.add b sts leaf k → Open sts (count leaf) k)
      (leads : (sts : List Step) (m k : ℕ) → Open sts m k → (leaf : B) × LeadsBy Fits w.add b sts leaf k × (count leaf ≡ m))
      (found : (b : B) (ss : List (Waiting B C)) (st : Step) → w.split_fault b ss st ≡ 0 → Found b st (w.children b st))
      (fitting : (first others : List (Step × ℕ)) → ts ≡ first ++ others → (to : Walk B C)
      → Arrives Found w.add (working b []) (bare first) to → Arrives Fits w.add (working b []) (bare first) to)
      (own : (first others : List (Step × ℕ)) → ts ≡ first ++ others → (to : Walk B C)
      → Arrives Fits w.add (working b []) (bare first) to → Arrives Own w.add (working b []) (bare first) to) where
    pub tree_on_its_way : (o : Option (List ℤ)) (s : State B C) → Taken w (proving (working b [])) ts o s
        → OnItsWay Open (bare ts) (report count w (proving (working b [])) ts)
    tree_on_its_way o s h = on_its_way (λ t. t.0) Open count (proving (working b [])) ts (opened [] b 0 here) opens counts
      where
        opens : Opens (λ t. t.0) Open count (proving (working b [])) ts
        opens first others e =
            let (to, z, a) = taken_first (working b []) first others o s (subst (λ l. Taken w (proving (working b [])) l o s) e h) in
            go to z (fitting first others e to (taken_arrives w Found found (working b []) to first none a))
          where
            go : (to : Walk B C)
                → steps_taken (proving (working b [])) first ≡ proving to
                → Arrives Fits w.add (working b []) (bare first) to
                → Open (bare first) (facts_in count (steps_taken (proving (working b [])) first)) (pending_in (steps_taken (proving (working b [])) first))
                ⊎ ((facts_in count (steps_taken (proving (working b [])) first) ≡ 0) × (pending_in (steps_taken (proving (working b [])) first) ≡ 0))
            go closed z a = inr (ap (facts_in count) z, ap pending_in z)
            go (working leaf ss) z a =
                inl (subst (λ s. Open (bare first) (facts_in count s) (pending_in s)) (sym z)
                (opened (bare first) leaf (length ss) (walk→leads Fits w.add b leaf (bare first) ss a)))

        counts : Counts (λ t. t.0) Open count (proving (working b [])) ts
        counts first others e m k q =
            let (leaf, l, c) = leads (bare first) m k q in
            let (ss, n, a) = leads→walk Fits w.add b leaf (bare first) k l in
            let z = walk_taken (working b []) (working leaf ss) first (own first others e (working leaf ss) a) in
            (ap (facts_in count) z ∙ c, ap pending_in z ∙ n)

  -- ---- claim 2

  -- by a path, where the method follows it and goes nowhere else
  module _ (Along : List (Step × ℕ) → B → Type 0) (Open : List (Step × ℕ) → ℕ → ℕ → Type 0) (count : B → ℕ) (b : B) (ts : List (Step × ℕ))
      (opened : (ts : List (Step × ℕ)) (leaf : B) → Along ts leaf → Open ts (count leaf) 0)
      (along : (ts : List (Step × ℕ)) (m k : ℕ) → Open ts m k → (leaf : B) × Along ts leaf × (count leaf ≡ m) × (k ≡ 0))
      (followed : (first others : List (Step × ℕ)) → ts ≡ first ++ others → (leaf : B) × Along first leaf)
      (reached : (first others : List (Step × ℕ)) → ts ≡ first ++ others → (leaf : B) → Along first leaf → steps_taken (taking b) first ≡ taking leaf) where
    pub path_on_its_way : OnItsWay Open ts (report count w (taking b) ts)
    path_on_its_way =
        subst (λ l. OnItsWay Open l (report count w (taking b) ts)) (map-id ts)
        (on_its_way (λ t. t) Open count (taking b) ts (as_is [] (opens_at [] ts refl)) (λ f r e. inl (as_is f (opens_at f r e))) counts)
      where
        as_is : (f : List (Step × ℕ)) → Open f (facts_in count (steps_taken (taking b) f)) (pending_in (steps_taken (taking b) f))
            → Open (map (λ t. t) f) (facts_in count (steps_taken (taking b) f)) (pending_in (steps_taken (taking b) f))
        as_is f o = subst (λ l. Open l (facts_in count (steps_taken (taking b) f)) (pending_in (steps_taken (taking b) f))) (sym (map-id f)) o

        opens_at : (f r : List (Step × ℕ)) → ts ≡ f ++ r → Open f (facts_in count (steps_taken (taking b) f)) (pending_in (steps_taken (taking b) f))
        opens_at f r e =
            let (leaf, a) = followed f r e in
            subst (λ s. Open f (facts_in count s) (pending_in s)) (sym (reached f r e leaf a)) (opened f leaf a)

        counts : Counts (λ t. t) Open count (taking b) ts
        counts first others e m k q =
            let (leaf, a, c, n) = along first m k (subst (λ l. Open l m k) (map-id first) q) in
            let z = reached first others e leaf a in
            (ap (facts_in count) z ∙ c, ap pending_in z ∙ sym n)

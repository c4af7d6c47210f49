-- Reading by shapes: under claim 1 every step is taken exactly when no step follows a whole tree; under claim 2 every step and the model are.
use Prim.Native.Nat.{ℕ, ◌+◌}
use native.Mathlib.Omega.{arith}
use mathlib.Core.Path.{◌≡◌, refl, sym, ◌∙◌, subst}
use mathlib.Core.Option.{get_or, none, some}
use mathlib.Core.List.{List, [], ◌∷◌, ◌++◌, append_assoc}
use lib.IntN.{ℤ}
use Rattle.calculus.specs.Facts.{Question}
use Rattle.calculus.specs.Steps.{Step, shape}
use Rattle.calculus.specs.Children.{child_at}
use Rattle.calculus.specs.Walk.{Walk, working, closed, enter}
use Rattle.calculus.specs.Derivations.{ClosedBy, by, AllClosedBy, none_left, child, AsIfFitted}
use Rattle.calculus.proofs.Leads.{Arrives, arrives_append, closed→walk, walk→closed}
use Rattle.format.specs.Reading.{State, proving, taking, modelled}
use Rattle.format.specs.ProperForm.{by_shape}
use Rattle.format.specs.Written.{with_child_zero, NoStepPast}
use Rattle.format.proofs.Behind.{Taken}

-- a whole tree is one from any number of facts on
module _ (n : ℕ) where
  abbrev Whole : ℕ → List Step → Type 0
  Whole k sts = ClosedBy (AsIfFitted n) ◌+◌ k sts

  mutual
    from_any : {k : ℕ} {sts : List Step} → Whole k sts → (j : ℕ) → Whole j sts
    from_any (by i k) j = by i (all_from_any k j)

    all_from_any : {k : ℕ} {cs : List ℕ} {sts : List Step} → AllClosedBy (AsIfFitted n) ◌+◌ k cs sts → (j : ℕ) → AllClosedBy (AsIfFitted n) ◌+◌ j cs sts
    all_from_any none_left j = none_left
    all_from_any (child {c = c} d k ks) j = child d (from_any k (j + c)) (all_from_any ks j)

module _ (u : Question) where
  abbrev Walking : Walk ℕ ℕ → List Step → Walk ℕ ℕ → Type 0
  Walking = Arrives (AsIfFitted u.n) ◌+◌

  -- ---- claim 1

  -- what is taken after some steps
  taken_behind : (first others : List Step) (w middle : Walk ℕ ℕ) (s : State ℕ ℕ) → Walking w first middle
      → Taken (by_shape u) (proving w) (with_child_zero (first ++ others)) none s
      → Taken (by_shape u) (proving middle) (with_child_zero others) none s
  unfolding Arrives Taken
  taken_behind [] others w middle s h k = subst (λ w. Taken (by_shape u) (proving w) (with_child_zero others) none s) h k
  taken_behind (st ∷ first) others closed middle s h k = absurd h
  taken_behind (st ∷ first) others (working b ss) middle s (cs, e, h) (_, k) =
      taken_behind first others (enter ◌+◌ b (shape u.n st) ss) middle s (subst (λ cs. Walking (enter ◌+◌ b cs ss) first middle) e h) k

  none_behind : (others : List Step) (s : State ℕ ℕ) → Taken (by_shape u) (proving closed) (with_child_zero others) none s → others ≡ []
  unfolding Taken
  none_behind [] s h = refl
  none_behind (st ∷ others) s h = absurd h

  pub taken→none_past : (k : ℕ) (sts : List Step) (s : State ℕ ℕ) → Taken (by_shape u) (proving (working k [])) (with_child_zero sts) none s → NoStepPast u sts
  taken→none_past k sts s h = λ first others e tree.
      none_behind others s (taken_behind first others (working k []) closed s (closed→walk (AsIfFitted u.n) ◌+◌ k first (from_any u.n tree k))
      (subst (λ sts. Taken (by_shape u) (proving (working k [])) (with_child_zero sts) none s) e h))

  -- the steps left are taken, from where those before them arrived
  take_on : (k : ℕ) (sts done : List Step) (w : Walk ℕ ℕ) → Walking (working k []) done w
      → ((first others : List Step) → done ++ sts ≡ first ++ others → Whole u.n k first → others ≡ [])
      → (end : Walk ℕ ℕ) × Taken (by_shape u) (proving w) (with_child_zero sts) none (proving end)
  unfolding Arrives Taken
  take_on k [] done w h n = (w, refl)
  take_on k (st ∷ sts) done closed h n =
      absurd (let z : ◌≡◌ {A = ℕ} 0 1 = cc (n done (st ∷ sts) refl (walk→closed (AsIfFitted u.n) ◌+◌ k done h)) in omega arith)
  take_on k (st ∷ sts) done (working b ss) h n =
      let next : Walk ℕ ℕ = enter ◌+◌ b (shape u.n st) ss in
      let (end, t) =
      take_on k sts (done ++ (st ∷ [])) next
      (arrives_append (AsIfFitted u.n) ◌+◌ (working k []) (working b ss) next done (st ∷ []) h (shape u.n st, refl, refl))
      (λ first others e. n first others (sym (append_assoc done (st ∷ []) sts) ∙ e)) in
      (end, (refl, t))

  pub none_past→taken : (k : ℕ) (sts : List Step) → NoStepPast u sts
      → (end : Walk ℕ ℕ) × Taken (by_shape u) (proving (working k [])) (with_child_zero sts) none (proving end)
  unfolding Arrives
  none_past→taken k sts n = take_on k sts [] (working k []) refl (λ first others e tree. n first others e (from_any u.n tree 0))

  -- ---- claim 2

  pub path_taken : (k : ℕ) (ts : List (Step × ℕ)) (m : List ℤ) → (end : ℕ) × Taken (by_shape u) (taking k) ts (some m) (modelled end m)
  unfolding Taken
  path_taken k [] m = (k, (refl, refl))
  path_taken k (t ∷ ts) m =
      let (end, h) = path_taken (k + get_or (child_at (shape u.n t.0) t.1) 0) ts m in
      (end, (refl, h))

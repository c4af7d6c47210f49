-- Two methods that take the same steps side by side: where one finds no fault, neither does the other, and they come to related states.
use Prim.Native.Nat.{ℕ}
use mathlib.Core.Path.{◌≡◌, refl, subst}
use mathlib.Core.Option.{Option, none, some}
use mathlib.Core.List.{List, [], ◌∷◌}
use lib.ListN.{length}
use lib.IntN.{ℤ}
use Rattle.lists.proofs.Matched.{matched_length}
use Rattle.calculus.specs.Steps.{Step}
use Rattle.calculus.specs.Walk.{Waiting, Walk}
use Rattle.calculus.proofs.Alongside.{ChildrenRelated, PendingRelated, Alongside, both_working, both_closed, enter_alongside}
use Rattle.format.specs.Reading.{State, proving, taking, modelled, Method}
use Rattle.format.proofs.Behind.{Taken}

module _ {B C D E : Type 0} (w : Method B C) (x : Method D E) (R : B → D → Type 0) where
  pub data Beside : State B C → State D E → Type 0 where
    both_proving : {k : Walk B C} {l : Walk D E} → Alongside w.add x.add R k l → Beside (proving k) (proving l)
    both_taking : {b : B} {d : D} → R b d → Beside (taking b) (taking d)
    both_modelled : {b : B} {d : D} {m : List ℤ} → R b d → Beside (modelled b m) (modelled d m)

  -- what is asked of the second method: no fault on related branches, and related branches after a step
  pub record Follows : Type 0 where
    pub split : (b : B) (d : D) (ss : List (Waiting B C)) (ts : List (Waiting D E)) (st : Step)
        → R b d
        → length ss ≡ length ts
        → w.split_fault b ss st ≡ 0
        → (x.split_fault d ts st ≡ 0) × ChildrenRelated w.add x.add R b d (w.children b st) (x.children d st)
    pub taken : (b : B) (d : D) (st : Step) (k : ℕ)
        → R b d
        → w.taken_fault b st k ≡ 0
        → (x.taken_fault d st k ≡ 0) × R (w.taken b st k) (x.taken d st k)
    pub leaf : (b : B) (d : D) (m : List ℤ) → R b d → w.leaf_fault b m ≡ 0 → x.leaf_fault d m ≡ 0

  module _ (f : Follows) where
    pub taken_beside : (ts : List (Step × ℕ)) (o : Option (List ℤ)) (s s' : State B C) (t : State D E)
        → Beside s t
        → Taken w s ts o s'
        → (t' : State D E) × Taken x t ts o t' × Beside s' t'
    unfolding Taken
    taken_beside [] none s s' t r p = (t, refl, subst (λ z. Beside z t) p r)
    taken_beside [] (some m) _ s' _ (both_proving r) h = absurd h
    taken_beside [] (some m) _ s' _ (both_taking {b = b} {d = d} r) (l, p) =
        (modelled d m, (f.leaf b d m r l, refl), subst (λ z. Beside z (modelled d m)) p (both_modelled r))
    taken_beside [] (some m) _ s' _ (both_modelled r) h = absurd h
    taken_beside (t ∷ ts) o _ s' _ (both_proving (both_working {b = b} {d = d} {ss = ss} {ts = rs} r g)) (e, h) =
        let (e', k) = f.split b d ss rs t.0 r (matched_length (PendingRelated w.add x.add R) ss rs g) e in
        let (t', h', z) = taken_beside ts o _ s' _ (both_proving (enter_alongside w.add x.add R b d (w.children b t.0) (x.children d t.0) ss rs k g)) h in
        (t', (e', h'), z)
    taken_beside (t ∷ ts) o _ s' _ (both_proving both_closed) h = absurd h
    taken_beside (t ∷ ts) o _ s' _ (both_taking {b = b} {d = d} r) (e, h) =
        let (e', k) = f.taken b d t.0 t.1 r e in
        let (t', h', z) = taken_beside ts o _ s' _ (both_taking k) h in
        (t', (e', h'), z)
    taken_beside (t ∷ ts) o _ s' _ (both_modelled r) h = absurd h

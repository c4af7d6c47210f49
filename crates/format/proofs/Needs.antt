-- ThL2: an accepted ticket meets on its way exactly what its need reports.
use Prim.Native.Nat.{ℕ, zero, suc, ◌+◌, ◌≤◌}
use native.Mathlib.Omega.{arith}
use native.Mathlib.Decide.{ℕ_discrete}
use mathlib.Core.Path.{◌≡◌, refl, sym, ◌∙◌, ap, ap₂, subst, fun_ext}
use mathlib.Core.Logic.{◌⊎◌, inl, inr}
use mathlib.Core.Bool.{Bool, true, false, cond, false≢true}
use mathlib.Core.Option.{Option, some, get_or}
use mathlib.Core.List.{List, [], ◌∷◌, ◌++◌, map, map-map}
use lib.ListN.{length, length-map}
use lib.Dec.{leb}
use lib.IntN.{ℤ}
use borrow.Author.Tests.{leb-true, eqb-true, eqb-false}
use Rattle.lists.specs.Lists.{All, maximum}
use Rattle.lists.proofs.Lists.{all_left, element_within}
use Rattle.lists.proofs.Tests.{and_both}
use Rattle.calculus.specs.Facts.{Question, Fact, Branch}
use Rattle.calculus.specs.Steps.{Step, shape}
use Rattle.calculus.specs.Children.{child_at}
use Rattle.calculus.specs.Rules.{children}
use Rattle.calculus.specs.Instances.{Instance, IsStep}
use Rattle.calculus.specs.Walk.{Walk, working, closed}
use Rattle.calculus.specs.Derivations.{AsIfFitted, Path, TakesAsIfFitted, PathAsIfFitted}
use Rattle.calculus.specs.InRange.{FactsInRange}
use Rattle.calculus.proofs.Fits.{instance→fits}
use Rattle.calculus.proofs.Leads.{walk→closed, arrives_as}
use Rattle.calculus.proofs.Walks.{FitsBy, children_kept, fitting→proper, FollowedBy, Followed, followed→path, path→followed, path_first}
use Rattle.calculus.proofs.Shapes.{counted}
use Rattle.format.specs.Question.{form_manner, question_form, question_of}
use Rattle.format.specs.StepForms.{is_child, child_in_range}
use Rattle.format.specs.Reading.{State, proving, taking, modelled, Method, Ticket, Faulty, Done, claim_at, begin, read_behind}
use Rattle.format.specs.Checking.{or_none, checker, accepted, verdict}
use Rattle.format.specs.ProperForm.{by_shape, steps, steps_with_child, claim_behind, claim_in}
use Rattle.format.specs.Needs.{states_met, facts_in, pending_in, Report, report, complete, NeedRefused, Needs, need_by, report_of, needed}
use Rattle.format.specs.Demands.{AcceptedAs, OnItsWay, OpenOnTree, OpenOnPath, AsIfOnTree, AsIfOnPath, Reported, OnTreeAsIf, OnPathAsIf, ThL2, ThL2Met}
use Rattle.format.specs.Demands.{ThL2Numbers, ClosesAsIf}
use Rattle.format.proofs.Faults.{clash}
use Rattle.format.proofs.Behind.{Taken, formed_children, proving_no_model, taking_no_walk}
use Rattle.format.proofs.Claimed.{behind_claim, started, claimed_range, claimed_in_range, claimed_asked}
use Rattle.format.proofs.Tickets.{child_fits, Holding, steps_in_range, ReadAs, done→read, held→done, verdict→}
use Rattle.format.proofs.Checker.{bare, taken_arrives, found_by, taken→reached}
use Rattle.format.proofs.NoSolution.{all_bare}
use Rattle.format.proofs.Proper.{count_state, all_counted}
use Rattle.format.proofs.OnItsWay.{steps_taken, Own, tree_on_its_way, path_on_its_way}
use Rattle.format.proofs.Refusals.{none, InTicket, Finds, ticket_number}

-- ---- states counted

complete_counted : (s : State Branch (List Fact)) → complete (count_state s) ≡ complete s
complete_counted (proving (working b ss)) = refl
complete_counted (proving closed) = refl
complete_counted (taking b) = refl
complete_counted (modelled b m) = refl

facts_counted : (s : State Branch (List Fact)) → facts_in (λ k. k) (count_state s) ≡ facts_in length s
facts_counted (proving (working b ss)) = refl
facts_counted (proving closed) = refl
facts_counted (taking b) = refl
facts_counted (modelled b m) = refl

pending_counted : (s : State Branch (List Fact)) → pending_in (count_state s) ≡ pending_in s
pending_counted (proving (working b ss)) = length-map ss counted
pending_counted (proving closed) = refl
pending_counted (taking b) = refl
pending_counted (modelled b m) = refl

started_counted : (u : Question) (x : Bool) → started (by_shape u) x ≡ count_state (started (checker u) x)
started_counted u true = refl
started_counted u false = refl

-- where the states met are those of checking, counted, so is the report
report_counted : (u : Question) (s : State Branch (List Fact)) (ts : List (Step × ℕ))
    → states_met (by_shape u) (count_state s) ts ≡ map count_state (states_met (checker u) s ts)
    → report (λ k. k) (by_shape u) (count_state s) ts ≡ report length (checker u) s ts
report_counted u s ts e =
    let met : List (State Branch (List Fact)) = states_met (checker u) s ts in
    let each : (f : State ℕ ℕ → ℕ) (g : State Branch (List Fact) → ℕ) → ((s : State Branch (List Fact)) → f (count_state s) ≡ g s)
    → map f (states_met (by_shape u) (count_state s) ts) ≡ map g met =
    λ f g h. ap (map f) e ∙ map-map f count_state met ∙ ap (λ k. map k met) (fun_ext h) in
    ap₂ (λ f p. record { steps = length ts; facts = maximum f; pending = maximum p }) (each (facts_in (λ k. k)) (facts_in length) facts_counted)
    (each pending_in pending_in pending_counted)

-- ---- accepted tickets

-- what a ticket claims is what it holds
begun : {B C : Type 0} (w : Method B C) {b : List ℕ} {u : Question} {x : Bool} {o : Option (List ℤ)} → Holding b u x o → begin w (claim_in b) ≡ started w x
begun w {b} h = ap (λ g. begin w (claim_behind b g)) h.claimed.ended ∙ ap (started w) h.claim_is

pub needs_counted : (t : List ℕ) (u : Question) (x : Bool) (o : Option (List ℤ)) (s : State Branch (List Fact)) → Holding t u x o
    → Taken (checker u) (started (checker u) x) (steps_with_child t) o s
    → complete s ≡ true
    → needed t ≡ Needs (report length (checker u) (started (checker u) x) (steps_with_child t))
unfolding needed
needs_counted t u x o s h k c =
    let (n, met) = all_counted u (started (checker u) x) (steps_with_child t) o s k in
    let start : begin (by_shape u) (claim_in t) ≡ count_state (started (checker u) x) = begun (by_shape u) h ∙ started_counted u x in
    let (q, done) = held→done by_shape t u x o h (subst (λ s'. Taken (by_shape u) s' (steps_with_child t) o (count_state s)) (sym (started_counted u x)) n) in
    ap (need_by (report_of t)) done
    ∙ ap (λ z. cond z (Needs (report_of t u)) (NeedRefused 11 q)) (complete_counted s ∙ c)
    ∙ ap Needs
    (ap (λ s'. report (λ k. k) (by_shape u) s' (steps_with_child t)) start ∙ report_counted u (started (checker u) x) (steps_with_child t) met)

-- 11 does not apply to what checking accepts
pub accepted_complete : (u : Question) (claim : ℕ) (s : State Branch (List Fact)) (q : ℕ) → AcceptedAs claim (accepted u s q) → complete s ≡ true
accepted_complete u claim (proving (working b ss)) q h = absurd h
accepted_complete u claim (proving closed) q h = refl
accepted_complete u claim (taking b) q h = absurd h
accepted_complete u claim (modelled b m) q h = refl

-- and it accepts what the ticket claims
accepted_claim : (u : Question) (claim : ℕ) (ts : List (Step × ℕ)) (o : Option (List ℤ)) (x : Bool) (s : State Branch (List Fact))
    → Taken (checker u) (started (checker u) x) ts o s
    → (q : ℕ)
    → AcceptedAs claim (accepted u s q)
    → claim ≡ cond x 1 2
accepted_claim u claim ts o x (proving (working b ss)) k q h = absurd h
accepted_claim u claim ts o true (proving closed) k q h = h
accepted_claim u claim ts o false (proving closed) k q h = absurd (taking_no_walk (checker u) u.constraints ts o closed k)
accepted_claim u claim ts o x (taking b) k q h = absurd h
accepted_claim u claim ts o true (modelled b m) k q h = absurd (proving_no_model (checker u) (working u.constraints []) ts o b m k)
accepted_claim u claim ts o false (modelled b m) k q h = h

-- ---- checking's own numbers, by the tree and by the path

first_in_range : {t : List ℕ} {u : Question} {x : Bool} {o : Option (List ℤ)} → Holding t u x o → (first others : List (Step × ℕ)) → steps_with_child t ≡ first ++ others
    → All (λ t. IsStep u t.0) first
first_in_range {u = u} h first others e = all_left _ first others (subst (All (λ t. IsStep u t.0)) e (steps_in_range h))

on_tree : (t : List ℕ) (u : Question) (o : Option (List ℤ)) (s : State Branch (List Fact)) → Holding t u true o
    → Taken (checker u) (proving (working u.constraints [])) (steps_with_child t) o s
    → OnItsWay (OpenOnTree u) (steps t) (report length (checker u) (proving (working u.constraints [])) (steps_with_child t))
on_tree t u o s h k =
    let q = claimed_in_range h.claimed in
    let root : Walk Branch (List Fact) = working u.constraints [] in
    tree_on_its_way (checker u) (Instance u) (FitsBy children u) (OpenOnTree u) length u.constraints (steps_with_child t)
    (λ sts leaf k l. (leaf, l, refl)) (λ sts m k o. o) (found_by children u)
    (λ first others e to a. fitting→proper u q.head root to (bare first) (q.constraints, tt) (all_bare u first (first_in_range h first others e)) a)
    (λ first others e to a. arrives_as (Instance u) (Own (checker u)) ◌++◌ (FactsInRange u) (IsStep u) (children_kept u q.head)
    (λ b st cs r g i. sym (ap or_none (instance→fits u q.head b r st g i))) root to (bare first)
    (q.constraints, tt) (all_bare u first (first_in_range h first others e)) a) o s k

followed_taken : (u : Question) (b leaf : Branch) (ts : List (Step × ℕ)) → Followed u b ts leaf → steps_taken (checker u) (taking b) ts ≡ taking leaf
unfolding FollowedBy
followed_taken u b leaf [] h = ap taking h
followed_taken u b leaf (t ∷ ts) (c, e, h) = ap (λ o. steps_taken (checker u) (taking (b ++ or_none o)) ts) e ∙ followed_taken u (b ++ c) leaf ts h

on_path : (t : List ℕ) (u : Question) (o : Option (List ℤ)) (leaf : Branch) (m : List ℤ) → Holding t u false o
    → Taken (checker u) (taking u.constraints) (steps_with_child t) o (modelled leaf m)
    → OnItsWay (OpenOnPath u) (steps_with_child t) (report length (checker u) (taking u.constraints) (steps_with_child t))
on_path t u o leaf m h k =
    let q = claimed_in_range h.claimed in
    let (followed, _) = taken→reached children u u.constraints leaf m (steps_with_child t) o k in
    let path = followed→path u q.head (steps_with_child t) u.constraints leaf q.constraints (steps_in_range h) followed in
    path_on_its_way (checker u) (Path u u.constraints) (OpenOnPath u) length u.constraints (steps_with_child t)
    (λ ts l p. (l, p, refl, refl)) (λ ts m k o. o)
    (λ first others e. path_first u u.constraints leaf first others (subst (λ l. Path u u.constraints l leaf) e path))
    (λ first others e l p. followed_taken u u.constraints l first
    (path→followed u q.head first u.constraints l q.constraints (first_in_range h first others e) p))

module _ (t : List ℕ) (u : Question) (q : ℕ) where
  reported : (P : Question → Report → Type 0) (claim : ℕ) (x : Bool) (o : Option (List ℤ)) (s : State Branch (List Fact)) → Holding t u x o
      → Taken (checker u) (started (checker u) x) (steps_with_child t) o s
      → AcceptedAs claim (accepted u s q)
      → P u (report length (checker u) (started (checker u) x) (steps_with_child t))
      → Reported t P
  reported P claim x o s h k c p = (
    u,
    report length (checker u) (started (checker u) x) (steps_with_child t),
    claimed_asked h.claimed,
    needs_counted t u x o s h k (accepted_complete u claim s q c),
    p,
  )

  by_tree : (x : Bool) (o : Option (List ℤ)) (s : State Branch (List Fact)) → Holding t u x o
      → Taken (checker u) (started (checker u) x) (steps_with_child t) o s
      → AcceptedAs 1 (accepted u s q)
      → Reported t (λ u. OnItsWay (OpenOnTree u) (steps t))
  by_tree true o s h k c = reported (λ u. OnItsWay (OpenOnTree u) (steps t)) 1 true o s h k c (on_tree t u o s h k)
  by_tree false o s h k c = absurd (let z : 1 ≡ 2 = accepted_claim u 1 (steps_with_child t) o false s k q c in omega arith)

  by_path : (x : Bool) (o : Option (List ℤ)) (s : State Branch (List Fact)) → Holding t u x o
      → Taken (checker u) (started (checker u) x) (steps_with_child t) o s
      → AcceptedAs 2 (accepted u s q)
      → Reported t (λ u. OnItsWay (OpenOnPath u) (steps_with_child t))
  by_path true o s h k c = absurd (let z : 2 ≡ 1 = accepted_claim u 2 (steps_with_child t) o true s k q c in omega arith)
  by_path false o (proving (working b ss)) h k c = absurd c
  by_path false o (proving closed) h k c = absurd (taking_no_walk (checker u) u.constraints (steps_with_child t) o closed k)
  by_path false o (taking b) h k c = absurd c
  by_path false o (modelled leaf m) h k c =
      reported (λ u. OnItsWay (OpenOnPath u) (steps_with_child t)) 2 false o (modelled leaf m) h k c (on_path t u o leaf m h k)

pub needs_met : ThL2
needs_met work answer t = (
  λ h.
      let v = verdict→ children work answer t (verdict work answer t) (λ c r e. subst (AcceptedAs 1) (sym e) h) refl in
      let (x, o, held, k) = v.read in
      by_tree t v.asked v.number x o v.state held k (subst (AcceptedAs 1) (sym v.gives) h),
  λ h.
      let v = verdict→ children work answer t (verdict work answer t) (λ c r e. subst (AcceptedAs 2) (sym e) h) refl in
      let (x, o, held, k) = v.read in
      by_path t v.asked v.number x o v.state held k (subst (AcceptedAs 2) (sym v.gives) h),
)

-- ---- every report, by the tree and by the path as if every step fitted

claim_is_one : {t : List ℕ} {u : Question} {o : Option (List ℤ)} → Holding t u true o → claim_in t ≡ 1
claim_is_one {t} h = ap (claim_behind t) h.claimed.ended ∙ eqb-true _ 1 h.claim_is

claim_is_two : {t : List ℕ} {u : Question} {o : Option (List ℤ)} → Holding t u false o → claim_in t ≡ 2
claim_is_two {t} h =
    let (low, high) = claimed_range h.claimed in
    let other = eqb-false (claim_at t h.claimed.position) 1 h.claim_is in
    ap (claim_behind t) h.claimed.ended ∙ two (claim_at t h.claimed.position) low high other
  where
    two : (k : ℕ) → 1 ≤ k → k ≤ 2 → (k ≡ 1 → ⊥) → k ≡ 2
    two k l h f = go (ℕ_discrete k 1)
      where
        go : Dec (k ≡ 1) → k ≡ 2
        go (yes e) = absurd (f e)
        go (no g) = omega arith

pub closes_as_if : (u : Question) (ts : List (Step × ℕ)) (o : Option (List ℤ)) (s : State ℕ ℕ) → Taken (by_shape u) (proving (working (length u.constraints) [])) ts o s
    → complete s ≡ true
    → ClosesAsIf u (bare ts)
closes_as_if u ts o (proving (working k ss)) h c = absurd (false≢true c)
closes_as_if u ts o (proving closed) h c =
    walk→closed (AsIfFitted u.n) ◌+◌ (length u.constraints) (bare ts)
    (taken_arrives (by_shape u) (AsIfFitted u.n) (λ b ss st f. refl) (working (length u.constraints) []) closed ts o h)
closes_as_if u ts o (taking k) h c = absurd (false≢true c)
closes_as_if u ts o (modelled k m) h c = absurd (proving_no_model (by_shape u) (working (length u.constraints) []) ts o k m h)

tree_as_if : (t : List ℕ) (u : Question) (o : Option (List ℤ)) (s : State ℕ ℕ) → Taken (by_shape u) (proving (working (length u.constraints) [])) (steps_with_child t) o s
    → OnItsWay (AsIfOnTree u) (steps t) (report (λ k. k) (by_shape u) (proving (working (length u.constraints) [])) (steps_with_child t))
tree_as_if t u o s k =
    tree_on_its_way (by_shape u) (AsIfFitted u.n) (AsIfFitted u.n) (AsIfOnTree u) (λ k. k) (length u.constraints) (steps_with_child t)
    (λ sts leaf k l. l) (λ sts m k l. (m, l, refl)) (λ b ss st f. refl) (λ first others e to a. a) (λ first others e to a. a) o s k

-- the child taken adds what it has, one of a closing rule nothing
child_taken : (n : ℕ) (t : Step × ℕ) → child_in_range n t.0 t.1 ≡ true → TakesAsIfFitted n t (get_or (child_at (shape n t.0) t.1) 0)
child_taken n t e = go (shape n t.0) t.1 e
  where
    go : (cs : List ℕ) (k : ℕ) → is_child cs k ≡ true → (child_at cs k ≡ some (get_or (child_at cs k) 0)) ⊎ ((cs ≡ []) × (get_or (child_at cs k) 0 ≡ 0))
    go [] zero e = inr (refl, refl)
    go [] (suc k) e = inr (refl, refl)
    go (c ∷ cs) zero e = absurd (false≢true e)
    go (c ∷ cs) (suc k) e =
        let (_, h) = and_both (leb 1 (suc k)) (leb (suc k) (suc (length cs))) e in
        let g : suc k ≤ suc (length cs) = leb-true (suc k) (suc (length cs)) h in
        inl (element_within (c ∷ cs) k 0 (omega arith))

path_there : (n k : ℕ) (ts : List (Step × ℕ)) → All (λ t. child_in_range n t.0 t.1 ≡ true) ts → (facts : ℕ) × PathAsIfFitted n k ts facts
unfolding PathAsIfFitted
path_there n k [] h = (k, refl)
path_there n k (t ∷ ts) (h, hs) =
    let c : ℕ = get_or (child_at (shape n t.0) t.1) 0 in
    let (facts, p) = path_there n (k + c) ts hs in
    (facts, (c, child_taken n t h, p))

no_child : (cs : List ℕ) (k : ℕ) → cs ≡ [] → get_or (child_at cs k) 0 ≡ 0
no_child [] zero e = refl
no_child [] (suc k) e = refl
no_child (c ∷ cs) k e = clash cc

adds : (n : ℕ) (t : Step × ℕ) (c : ℕ) → TakesAsIfFitted n t c → get_or (child_at (shape n t.0) t.1) 0 ≡ c
adds n t c (inl e) = ap (λ o. get_or o 0) e
adds n t c (inr (z, y)) = no_child (shape n t.0) t.1 z ∙ sym y

path_taken : (u : Question) (k facts : ℕ) (ts : List (Step × ℕ)) → PathAsIfFitted u.n k ts facts → steps_taken (by_shape u) (taking k) ts ≡ taking facts
unfolding PathAsIfFitted
path_taken u k facts [] h = ap taking h
path_taken u k facts (t ∷ ts) (c, e, h) = ap (λ d. steps_taken (by_shape u) (taking (k + d)) ts) (adds u.n t c e) ∙ path_taken u (k + c) facts ts h

path_as_if : (t : List ℕ) (u : Question) (o : Option (List ℤ)) → Holding t u false o
    → OnItsWay (AsIfOnPath u) (steps_with_child t) (report (λ k. k) (by_shape u) (taking (length u.constraints)) (steps_with_child t))
path_as_if t u o h =
    let root : ℕ = length u.constraints in
    let children = formed_children t u (child_fits u false) (behind_claim h.claimed) (steps_with_child t) o h.formed in
    path_on_its_way (by_shape u) (PathAsIfFitted u.n root) (AsIfOnPath u) (λ k. k) root (steps_with_child t)
    (λ ts leaf p. (p, refl)) (λ ts m k (p, n). (m, p, refl, n))
    (λ first others e. path_there u.n root first
    (all_left _ first others (subst (All (λ t. child_in_range u.n t.0 t.1 ≡ true)) e children)))
    (λ first others e leaf p. path_taken u root leaf first p)

pub report_in_words : ThL2Met
unfolding needed
report_in_words t r e = go (read_behind by_shape t (question_form t)) refl e
  where
    by_claim : (u : Question) (s : State ℕ ℕ) → complete s ≡ true → report_of t u ≡ r → ReadAs by_shape t u s → OnTreeAsIf t u r ⊎ OnPathAsIf t u r
    by_claim u s c e (true, o, h, k) = inl (record {
      claim = claim_is_one h;
      closed = closes_as_if u (steps_with_child t) o s k c;
      numbers =
          subst (OnItsWay (AsIfOnTree u) (steps t)) (ap (λ s. report (λ k. k) (by_shape u) s (steps_with_child t)) (sym (begun (by_shape u) h)) ∙ e)
          (tree_as_if t u o s k);
    })
    by_claim u s c e (false, o, h, k) = inr (record {
      claim = claim_is_two h;
      numbers =
          subst (OnItsWay (AsIfOnPath u) (steps_with_child t)) (ap (λ s. report (λ k. k) (by_shape u) s (steps_with_child t)) (sym (begun (by_shape u) h)) ∙ e)
          (path_as_if t u o h);
    })

    at_end : (u : Question) (q : ℕ) (x : Bool) → cond x (Needs (report_of t u)) (NeedRefused 11 q) ≡ Needs r → (x ≡ true) × (report_of t u ≡ r)
    at_end u q true e = (refl, cc)
    at_end u q false e = clash cc

    go : (x : Ticket ℕ ℕ) → read_behind by_shape t (question_form t) ≡ x → need_by (report_of t) x ≡ Needs r
        → (u : Question) × (question_of t ≡ some u) × (OnTreeAsIf t u r ⊎ OnPathAsIf t u r)
    go (Faulty c q) p e = clash cc
    go (Done u s q) p e =
        let (c, z) = at_end u q (complete s) e in
        let (x, o, h, k) = done→read by_shape t u p in
        (u, claimed_asked h.claimed, by_claim u s c z (x, o, h, k))

-- ---- the numbers of refusals: 2 to 7, and 11 at the end

abbrev OfForm : ℕ → Type 0
OfForm c = (2 ≤ c) × (c ≤ 7)

by_shape_finds : (u : Question) → Finds OfForm (by_shape u)
by_shape_finds u = record {
  split = λ k ss st. none OfForm;
  taken = λ k st c. none OfForm;
  leaf = λ k m. none OfForm;
}

pub form_numbers : (t : List ℕ) → InTicket OfForm (read_behind by_shape t (question_form t))
form_numbers t = ticket_number OfForm (λ c h g. (omega arith, g)) t by_shape by_shape_finds form_manner (λ limited. clash cc) (λ _. (omega arith, omega arith))

pub need_numbers : ThL2Numbers
unfolding needed
need_numbers t c r e = go (read_behind by_shape t (question_form t)) (form_numbers t) e
  where
    go : (x : Ticket ℕ ℕ) → InTicket OfForm x → need_by (report_of t) x ≡ NeedRefused c r → OfForm c ⊎ (c ≡ 11)
    go (Faulty d q) p e = inl (subst OfForm (let z : d ≡ c = cc in z) p)
    go (Done u s q) p e = at_end (complete s) e
      where
        at_end : (x : Bool) → cond x (Needs (report_of t u)) (NeedRefused 11 q) ≡ NeedRefused c r → OfForm c ⊎ (c ≡ 11)
        at_end true e = clash cc
        at_end false e = inr (let z : 11 ≡ c = cc in sym z)

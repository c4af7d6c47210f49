-- ThL2: which tickets there is a report for, and which give 11, in words.
use Prim.Native.Nat.{ℕ, ◌+◌, ◌≤◌}
use native.Mathlib.Omega.{arith}
use mathlib.Core.Path.{◌≡◌, refl, sym, ◌∙◌, ap, subst}
use mathlib.Core.Bool.{Bool, true, false, cond}
use mathlib.Core.Option.{none, get_or}
use mathlib.Core.List.{List, [], ◌∷◌}
use lib.ListN.{length, length-map}
use lib.IntN.{ℤ}
use Rattle.lists.specs.Lists.{All}
use Rattle.lists.proofs.Lists.{all_map}
use Rattle.calculus.specs.Facts.{Question}
use Rattle.calculus.specs.Steps.{Step, shape}
use Rattle.calculus.specs.Children.{child_at}
use Rattle.calculus.specs.Walk.{Walk, working, closed}
use Rattle.calculus.specs.Derivations.{AsIfFitted}
use Rattle.calculus.proofs.Leads.{closed→walk}
use Rattle.format.specs.Question.{form_manner, question_form}
use Rattle.format.specs.Reading.{State, proving, taking, modelled, Method, stepped, Ticket, Faulty, Done, begin, read_behind}
use Rattle.format.specs.ProperForm.{by_shape, ticket_form, steps_with_child}
use Rattle.format.specs.Written.{end_record, with_child_zero, Content, no_solution_ticket, strings_ticket, written, InRange, TakenInRange, record_behind}
use Rattle.format.specs.Needs.{Report, complete, Need, NeedRefused, Needs, need_by, report_of, needed}
use Rattle.format.specs.Refusals.{Begins}
use Rattle.format.specs.Demands.{Bytes, WrittenAs, Complete, ThL2Reported, UnclosedAt, unclosed, unmodelled, ThL2Unclosed, ClosesAsIf}
use Rattle.format.proofs.QuestionsRead.{form_in}
use Rattle.format.proofs.Faults.{clash}
use Rattle.format.proofs.Refusals.{InTicket}
use Rattle.format.proofs.Behind.{Taken, child_ok, proving_stays, taking_unmodelled}
use Rattle.format.proofs.ChildFields.{child→}
use Rattle.format.proofs.RecordsBehind.{Fine, fine_splits, fine_taken}
use Rattle.format.proofs.Tickets.{Holding, ReadAs, done→read}
use Rattle.format.proofs.WholeTickets.{holding→}
use Rattle.format.proofs.ShapeWalks.{none_past→taken}
use Rattle.format.proofs.ProperBytes.{bare_zero, written→proper, form_words}
use Rattle.format.proofs.Checker.{bare}
use Rattle.format.proofs.OnItsWay.{steps_taken, walk_taken}
use Rattle.format.proofs.Beginnings.{Faultless, end_done, beginning_read}
use Rattle.format.proofs.Needs.{closes_as_if, form_numbers}

-- steps without their child fields, put and taken away
-- what is taken without a model has no fault, and leads to where it is taken
taken_faultless : {B C : Type 0} (w : Method B C) (s to : State B C) (ts : List (Step × ℕ)) → Taken w s ts none to → Faultless w s ts × (steps_taken w s ts ≡ to)
unfolding Taken Faultless
taken_faultless w s to [] h = (tt, h)
taken_faultless w (proving (working br ss)) to (t ∷ ts) (f, h) =
    let (none_left, e) = taken_faultless w (stepped w (proving (working br ss)) t) to ts h in
    ((f, none_left), e)
taken_faultless w (proving closed) to (t ∷ ts) h = absurd h
taken_faultless w (taking br) to (t ∷ ts) (f, h) = let (none_left, e) = taken_faultless w (stepped w (taking br) t) to ts h in ((f, none_left), e)
taken_faultless w (modelled br m) to (t ∷ ts) h = absurd h

-- the other of two, where a test fails
not_complete : {X : Type 0} (x : Bool) (y z : X) → (x ≡ true → ⊥) → cond x y z ≡ z
not_complete true y z h = absurd (h refl)
not_complete false y z h = refl

module _ (t : List ℕ) where
  -- reading by shapes
  abbrev read : Ticket ℕ ℕ
  read = read_behind by_shape t (question_form t)

  -- ---- from words to where reading is done

  module _ (u : Question) where
    abbrev root : ℕ
    root = length u.constraints

    -- steps without fault, and then the end
    begins_done : (claim : ℕ) (ts : List (Step × ℕ)) (r : ℕ) → 1 ≤ claim → claim ≤ 2 → Begins t u claim ts end_record r
        → All (Fine u (child_ok u (begin (by_shape u) claim))) ts
        → Faultless (by_shape u) (begin (by_shape u) claim) ts
        → read ≡ Done u (steps_taken (by_shape u) (begin (by_shape u) claim) ts) r
    begins_done claim ts r least most h fine faultless =
        let on =
        beginning_read by_shape form_manner t u claim ts end_record h.question
        (form_in u)
        least most h.few_bytes fine faultless h.bytes in
        on.reads
        ∙ end_done (by_shape u) t u (steps_taken (by_shape u) (begin (by_shape u) claim) ts) _ on.position on.stands
        ∙ ap (Done u (steps_taken (by_shape u) (begin (by_shape u) claim) ts)) (sym h.number)

    -- under claim 1, in the state that the tree leads to
    record TreeRead (sts : List Step) : Type 0 where
      end : Walk ℕ ℕ
      taken : Taken (by_shape u) (proving (working root [])) (with_child_zero sts) none (proving end)
      reads : read ≡ Done u (proving end) (record_behind u sts)

    tree_read : (sts : List Step) → WrittenAs t (no_solution_ticket u sts) → TreeRead sts
    unfolding InRange written
    tree_read sts w =
        let (question, steps, none-past) = w.is_in_range in
        let (end, taken) = none_past→taken u root sts none-past in
        let (faultless, to) = taken_faultless (by_shape u) (proving (working root [])) (proving end) (with_child_zero sts) taken in
        let r : ℕ = record_behind u sts in
        record {
          end = end;
          taken = taken;
          reads =
              begins_done 1 (with_child_zero sts) r (omega arith) (omega arith)
              (record { bytes = w.bytes; few_bytes = w.few; question = question; number = omega (arith, length-map {B = Step × ℕ} sts (λ (st : Step). (st, 0))) })
              (fine_splits u sts steps) faultless
              ∙ ap (λ s. Done u s r) to;
        }

    -- which is closed exactly where the tree is
    tree_closed : (sts : List Step) (k : TreeRead sts) → Complete (no_solution_ticket u sts) → k.end ≡ closed
    tree_closed sts k c =
        let (_, to) = taken_faultless (by_shape u) (proving (working root [])) (proving k.end) (with_child_zero sts) k.taken in
        let walked = closed→walk (AsIfFitted u.n) ◌+◌ root (bare (with_child_zero sts)) (subst (ClosesAsIf u) (sym (bare_zero sts)) c) in
        let same : proving k.end ≡ proving closed = sym to ∙ walk_taken (by_shape u) (working root []) closed (with_child_zero sts) walked in
        cc

    closed_tree : (sts : List Step) (k : TreeRead sts) → complete (proving k.end) ≡ true → Complete (no_solution_ticket u sts)
    closed_tree sts k c =
        subst (ClosesAsIf u) (bare_zero sts) (closes_as_if u (with_child_zero sts) none (proving k.end) k.taken c)

    -- under claim 2 without a model, on a branch
    path_goes : (ts : List (Step × ℕ)) (k : ℕ) → (end : ℕ) × Faultless (by_shape u) (taking k) ts × (steps_taken (by_shape u) (taking k) ts ≡ taking end)
    unfolding Faultless
    path_goes [] k = (k, tt, refl)
    path_goes (s ∷ ts) k =
        let (end, faultless, e) = path_goes ts (k + get_or (child_at (shape u.n s.0) s.1) 0) in
        (end, (refl, faultless), e)

    path_read : (ts : List (Step × ℕ)) (r : ℕ) → Begins t u 2 ts end_record r → All (TakenInRange u) ts
        → (end : ℕ) × (read ≡ Done u (taking end) r)
    path_read ts r h range =
        let (end, faultless, to) = path_goes ts root in
        (end, begins_done 2 ts r (omega arith) (omega arith) h (all_map ts (fine_taken u) range) faultless ∙ ap (λ s. Done u s r) to)

    -- and with one
    model_read : (ts : List (Step × ℕ)) (m : List ℤ) → WrittenAs t (strings_ticket u ts m) → (k : ℕ) × (q : ℕ) × (read ≡ Done u (modelled k m) q)
    unfolding ticket_form
    model_read ts m w = (written→proper t (strings_ticket u ts m) w).0

  -- ---- from where reading is done to words

  module _ (bytes : Bytes t) (u : Question) (q : ℕ) where
    tree_words : (k : Walk ℕ ℕ) → read ≡ Done u (proving k) q → (sts : List Step) × WrittenAs t (no_solution_ticket u sts)
    unfolding ticket_form
    tree_words k e = (bare (steps_with_child t), (form_words t bytes (no_solution_ticket u (bare (steps_with_child t)))).0 ((k, q, e), refl))

    path_words : (k : ℕ) → read ≡ Done u (taking k) q
        → (ts : List (Step × ℕ)) × Begins t u 2 ts end_record q × All (TakenInRange u) ts
    path_words k e = by_claim (done→read by_shape t u e)
      where
        ts : List (Step × ℕ)
        ts = steps_with_child t

        r : ℕ
        r = record_behind u ts

        begun : Holding t u false none → Begins t u 2 ts end_record r × All (TakenInRange u) ts
        begun h =
            let w = holding→ t u false none bytes h in (
              record { bytes = w.bytes; few_bytes = w.few; question = w.question; number = refl },
              all_map ts (λ s (g, c). (g, child→ u s c)) w.steps,
            )

        by_claim : ReadAs by_shape t u (taking k) → (ts : List (Step × ℕ)) × Begins t u 2 ts end_record q × All (TakenInRange u) ts
        by_claim (true, o, h, taken) =
            let ((w, z), _) = proving_stays (by_shape u) (working (length u.constraints) []) ts o taken in
            clash cc
        by_claim (false, o, h, taken) =
            let (b, range) = begun (subst (Holding t u false) (taking_unmodelled (by_shape u) (length u.constraints) ts o k taken) h) in
            let (end, reads) = path_read u ts r b range in
            let same : Done u (taking end) r ≡ Done u (taking k) q = sym reads ∙ e in
            (ts, subst (Begins t u 2 ts end_record) (let z : r ≡ q = cc in z) b, range)

    model_words : (k : ℕ) (m : List ℤ) → read ≡ Done u (modelled k m) q → (ts : List (Step × ℕ)) × WrittenAs t (strings_ticket u ts m)
    unfolding ticket_form
    model_words k m e = (steps_with_child t, (form_words t bytes (strings_ticket u (steps_with_child t) m)).0 ((k, q, e), refl))

  -- ---- a report, or 11

  -- by whether the last state is complete
  abbrev by_state : Question → State ℕ ℕ → ℕ → Need
  by_state u s q = cond (complete s) (Needs (report_of t u)) (NeedRefused 11 q)

  done_needs : (u : Question) (s : State ℕ ℕ) (q : ℕ) → read ≡ Done u s q → needed t ≡ by_state u s q
  unfolding needed
  done_needs u s q e = ap (need_by (report_of t)) e

pub complete_reported : ThL2Reported
unfolding needed
complete_reported t bytes = (λ (r, e). reported r (read t) refl e, there)
  where
    Words : Type 0
    Words = (c : Content) × WrittenAs t c × Complete c

    done : (r : Report) (u : Question) (s : State ℕ ℕ) (q : ℕ) → read t ≡ Done u s q → by_state t u s q ≡ Needs r → Words
    done r u (proving (working b ss)) q p e = clash cc
    done r u (proving closed) q p e =
        let (sts, w) = tree_words t bytes u q closed p in
        let k = tree_read t u sts w in
        let same : Done u (proving k.end) (record_behind u sts) ≡ Done u (proving closed) q = sym k.reads ∙ p in
        let end : k.end ≡ closed = cc in
        (no_solution_ticket u sts, w, closed_tree t u sts k (ap (λ w. complete (proving w)) end))
    done r u (taking b) q p e = clash cc
    done r u (modelled b m) q p e = let (ts, w) = model_words t bytes u q b m p in (strings_ticket u ts m, w, tt)

    reported : (r : Report) (x : Ticket ℕ ℕ) → read t ≡ x → need_by (report_of t) x ≡ Needs r → Words
    reported r (Faulty c q) p e = clash cc
    reported r (Done u s q) p e = done r u s q p e

    there : Words → (r : Report) × (needed t ≡ Needs r)
    there (no_solution_ticket u sts, w, c) =
        let k = tree_read t u sts w in (
          report_of t u,
          done_needs t u (proving k.end) _ k.reads
              ∙ ap (λ w. by_state t u (proving w) (record_behind u sts)) (tree_closed t u sts k c),
        )
    there (strings_ticket u ts m, w, c) = let (k, q, p) = model_read t u ts m w in (report_of t u, done_needs t u (modelled k m) q p)

pub unclosed_refused : ThL2Unclosed
unfolding needed
unclosed_refused t r bytes = (refused (read t) refl (form_numbers t), there)
  where
    done : (u : Question) (s : State ℕ ℕ) (q : ℕ) → read t ≡ Done u s q → by_state t u s q ≡ NeedRefused 11 r → UnclosedAt t r
    done u (proving (working b ss)) q p e =
        let (sts, w) = tree_words t bytes u q (working b ss) p in
        let k = tree_read t u sts w in
        let same : Done u (proving k.end) (record_behind u sts) ≡ Done u (proving (working b ss)) q = sym k.reads ∙ p in
        let still : k.end ≡ working b ss = cc in
        let number : q ≡ r = cc in
        let at : record_behind u sts ≡ q = cc in
        unclosed u sts w (λ c. let z : working b ss ≡ closed = sym still ∙ tree_closed t u sts k c in clash cc) (sym number ∙ sym at)
    done u (proving closed) q p e = clash cc
    done u (taking b) q p e =
        let (ts, begins, range) = path_words t bytes u q b p in
        unmodelled u ts (subst (Begins t u 2 ts end_record) (let z : q ≡ r = cc in z) begins) range
    done u (modelled b m) q p e = clash cc

    refused : (x : Ticket ℕ ℕ) → read t ≡ x → InTicket (λ c. (2 ≤ c) × (c ≤ 7)) x → need_by (report_of t) x ≡ NeedRefused 11 r → UnclosedAt t r
    refused (Faulty c q) p (low, high) e = absurd (let z : c ≡ 11 = cc in omega arith)
    refused (Done u s q) p n e = done u s q p e

    there : UnclosedAt t r → needed t ≡ NeedRefused 11 r
    there (unclosed u sts w not-closed at) =
        let k = tree_read t u sts w in
        done_needs t u (proving k.end) _ k.reads
        ∙ not_complete (complete (proving k.end)) (Needs (report_of t u)) (NeedRefused 11 (record_behind u sts))
        (λ c. not-closed (closed_tree t u sts k c))
        ∙ ap (NeedRefused 11) (sym at)
    there (unmodelled u ts begins range) = let (end, reads) = path_read t u ts r begins range in done_needs t u (taking end) r reads

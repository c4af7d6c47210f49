-- Proper form in words: bytes are of proper form, with a question, steps and a model, exactly when they are written from these, in range; and they say one thing
-- only.
use Prim.Native.Nat.{ℕ}
use mathlib.Core.Path.{◌≡◌, refl, sym, ◌∙◌, ap, ap₂, subst}
use mathlib.Core.Bool.{Bool, true, false}
use mathlib.Core.Option.{Option, none, some}
use mathlib.Core.List.{List, [], ◌∷◌}
use lib.ListN.{length}
use lib.Dec.{eqb}
use lib.IntN.{ℤ}
use borrow.Author.Tests.{eqb-true}
use Rattle.lists.specs.Lists.{All}
use Rattle.lists.proofs.Lists.{all_map, all_mapped}
use Rattle.calculus.specs.Facts.{Question}
use Rattle.calculus.specs.Steps.{Step}
use Rattle.format.specs.Reading.{proving, modelled}
use Rattle.format.specs.ProperForm.{by_shape, steps_with_child}
use Rattle.format.specs.Written.{with_child_zero, Content, no_solution_ticket, strings_ticket, written, InRange}
use Rattle.format.specs.Demands.{Bytes, WrittenAs, FormedAs, ThForm, ThFormOne}
use Rattle.format.proofs.Faults.{clash}
use Rattle.format.proofs.Behind.{Taken, proving_stays, proving_no_model, taking_no_walk, taking_models}
use Rattle.format.proofs.Checker.{bare}
use Rattle.format.proofs.ChildFields.{child→}
use Rattle.format.proofs.RecordsBehind.{fine_splits, fine_taken}
use Rattle.format.proofs.ShapeWalks.{taken→none_past, none_past→taken, path_taken}
use Rattle.format.proofs.Claimed.{started}
use Rattle.format.proofs.Tickets.{Holding, proper→, →proper}
use Rattle.format.proofs.WholeTickets.{→holding, Writes, holding→}

-- ---- steps without a child

pub bare_zero : (sts : List Step) → bare (with_child_zero sts) ≡ sts
bare_zero [] = refl
bare_zero (st ∷ sts) = ap (λ l. st ∷ l) (bare_zero sts)

zero_bare : (ts : List (Step × ℕ)) → All (λ t. eqb t.1 0 ≡ true) ts → ts ≡ with_child_zero (bare ts)
zero_bare [] h = refl
zero_bare ((st, c) ∷ ts) (h, hs) = ap₂ (λ (c : ℕ) (l : List (Step × ℕ)). (st, c) ∷ l) (eqb-true c 0 h) (zero_bare ts hs)

-- ---- from words to proper form

module _ (b : List ℕ) (u : Question) where
  written→no_solution : (sts : List Step) → WrittenAs b (no_solution_ticket u sts) → FormedAs b (no_solution_ticket u sts)
  unfolding InRange written
  written→no_solution sts w =
      let (question, steps, none-past) = w.is_in_range in
      let (h, same) = →holding b u true none (with_child_zero sts) question w.few (fine_splits u sts steps) tt w.bytes in
      let (end, taken) = none_past→taken u (length u.constraints) sts none-past in
      let (r, done) = →proper b u true none h (subst (λ ts. Taken (by_shape u) (started (by_shape u) true) ts none (proving end)) (sym same) taken) in
      ((end, r, done), ap bare same ∙ bare_zero sts)

  written→strings : (ts : List (Step × ℕ)) (m : List ℤ) → WrittenAs b (strings_ticket u ts m) → FormedAs b (strings_ticket u ts m)
  unfolding InRange written
  written→strings ts m w =
      let (question, steps, model) = w.is_in_range in
      let (h, same) = →holding b u false (some m) ts question w.few (all_map ts (fine_taken u) steps) model w.bytes in
      let (end, taken) = path_taken u (length u.constraints) ts m in
      let (r, done) = →proper b u false (some m) h (subst (λ ts. Taken (by_shape u) (started (by_shape u) false) ts (some m) (modelled end m)) (sym same) taken) in
      ((end, r, done), same)

pub written→proper : (b : List ℕ) (c : Content) → WrittenAs b c → FormedAs b c
written→proper b (no_solution_ticket u sts) w = written→no_solution b u sts w
written→proper b (strings_ticket u ts m) w = written→strings b u ts m w

-- ---- from proper form to words

module _ (b : List ℕ) (bytes : Bytes b) (u : Question) where
  no_solution→written : (sts : List Step) → FormedAs b (no_solution_ticket u sts) → WrittenAs b (no_solution_ticket u sts)
  unfolding InRange written
  no_solution→written sts ((end, r, done), same) =
      let (x, o, h, taken) = proper→ b u done in
      by_claim x o h taken
    where
      walked : (o : Option (List ℤ)) → o ≡ none → Holding b u true o → Taken (by_shape u) (started (by_shape u) true) (steps_with_child b) none (proving end)
          → WrittenAs b (no_solution_ticket u sts)
      walked o e h taken =
          let read : Writes b u true none (steps_with_child b) = holding→ b u true none bytes (subst (Holding b u true) e h) in
          let zeros : steps_with_child b ≡ with_child_zero sts = zero_bare (steps_with_child b) (all_map (steps_with_child b) (λ t k. k.1) read.steps) ∙ ap with_child_zero same in
          let w : Writes b u true none (with_child_zero sts) = subst (Writes b u true none) zeros read in
          record {
            is_in_range = (
              w.question,
              all_map sts (λ st k. k.0) (subst (λ X. X) (all_mapped _ (λ (st : Step). (st, 0)) sts) w.steps),
              taken→none_past u (length u.constraints) sts (proving end)
                  (subst (λ ts. Taken (by_shape u) (started (by_shape u) true) ts none (proving end)) zeros taken),
            );
            bytes = w.bytes;
            few = w.few;
          }

      by_claim : (x : Bool) (o : Option (List ℤ)) → Holding b u x o → Taken (by_shape u) (started (by_shape u) x) (steps_with_child b) o (proving end)
          → WrittenAs b (no_solution_ticket u sts)
      by_claim false o h taken = absurd (taking_no_walk (by_shape u) (length u.constraints) (steps_with_child b) o end taken)
      by_claim true o h taken =
          let (_, e) = proving_stays (by_shape u) _ (steps_with_child b) o taken in
          walked o e h (subst (λ o. Taken (by_shape u) (started (by_shape u) true) (steps_with_child b) o (proving end)) e taken)

  -- a claim other than "no solution" is for strings
  strings→written : (ts : List (Step × ℕ)) (m : List ℤ) → FormedAs b (strings_ticket u ts m) → WrittenAs b (strings_ticket u ts m)
  unfolding InRange written
  strings→written ts m ((end, r, done), same) =
      let (x, o, h, taken) = proper→ b u done in
      by_claim x o h taken
    where
      modelled_by : (o : Option (List ℤ)) → o ≡ some m → Holding b u false o → WrittenAs b (strings_ticket u ts m)
      modelled_by o e h =
          let w : Writes b u false (some m) ts =
          subst (Writes b u false (some m)) same (holding→ b u false (some m) bytes (subst (Holding b u false) e h)) in
          record {
            is_in_range = (w.question, all_map ts (λ t (k, c). (k, child→ u t c)) w.steps, w.ending);
            bytes = w.bytes;
            few = w.few;
          }

      by_claim : (x : Bool) (o : Option (List ℤ)) → Holding b u x o → Taken (by_shape u) (started (by_shape u) x) (steps_with_child b) o (modelled end m)
          → WrittenAs b (strings_ticket u ts m)
      by_claim true o h taken = absurd (proving_no_model (by_shape u) _ (steps_with_child b) o end m taken)
      by_claim false o h taken = modelled_by o (taking_models (by_shape u) (length u.constraints) (steps_with_child b) o end m taken) h

-- ---- both

proper→written : (b : List ℕ) → Bytes b → (c : Content) → FormedAs b c → WrittenAs b c
proper→written b bytes (no_solution_ticket u sts) p = no_solution→written b bytes u sts p
proper→written b bytes (strings_ticket u ts m) p = strings→written b bytes u ts m p

pub form_words : ThForm
form_words b bytes c = (proper→written b bytes c, written→proper b c)

-- ---- bytes say one thing only

-- the question, the claim, the steps and the model that bytes of proper form hold
form_one : (b : List ℕ) (c d : Content) → FormedAs b c → FormedAs b d → c ≡ d
form_one b (no_solution_ticket u sts) (no_solution_ticket v sts') ((w, r, e), f) ((w', r', e'), g) =
    let same : u ≡ v = cc in
    ap₂ no_solution_ticket same (sym f ∙ g)
form_one b (no_solution_ticket u sts) (strings_ticket v ts m) ((w, r, e), f) ((w', r', e'), g) = clash cc
form_one b (strings_ticket u ts m) (no_solution_ticket v sts) ((w, r, e), f) ((w', r', e'), g) = clash cc
form_one b (strings_ticket u ts m) (strings_ticket v ts' m') ((w, r, e), f) ((w', r', e'), g) =
    let same : u ≡ v = cc in
    let model : m ≡ m' = cc in
    ap₂ (λ u ts. strings_ticket u ts m) same (sym f ∙ g) ∙ ap (strings_ticket v ts') model

pub form_one_words : ThFormOne
form_one_words b c d w x = form_one b c d (written→proper b c w) (written→proper b d x)

-- The first constraint that is not met: one constraint more, and what is found by it.
use Prim.Native.Nat.{ℕ, suc, ◌+◌, ◌<◌}
use native.Mathlib.Omega.{arith}
use native.Mathlib.Numerals.{add-one}
use mathlib.Core.Path.{◌≡◌, refl, sym, ◌∙◌, ap}
use mathlib.Core.Bool.{Bool, true, false, not}
use mathlib.Core.Option.{none, some}
use mathlib.Core.List.{List, [], ◌∷◌, ◌++◌}
use lib.ListN.{length, take}
use Rattle.lists.specs.Lists.{lowest}
use Rattle.calculus.specs.Facts.{Question}
use Rattle.calculus.specs.Extended.{Extended, Constraint, constraints_of}
use Rattle.calculus.specs.Meaning.{Assignment}
use Rattle.lists.proofs.Searches.{lowest_behind, lowest_next, lowest_taken}
use Rattle.format.specs.Records.{next}
use Rattle.format.specs.Places.{skip, constraints_from, constraint_at, constraints_at}
use Rattle.format.specs.Judging.{meets_constraint, Submitted, first_unmet, said_of, of_question, record_shown, unmet_shown}
use Rattle.format.proofs.Places.{length_constraints, constraints_snoc, take_constraints}
use Rattle.format.proofs.Standing.{all_constraints}
use Rattle.question.specs.declared.Progress.{Progress}
use Rattle.question.specs.Progress.{numbers_of}
use Rattle.question.specs.Posed.{asked, extended_asked, Posed}
use Rattle.question.proofs.Posed.{literal_count}
use Rattle.std.specs.Prelude.{Ok}
use Rattle.judging.specs.declared.Verdict.TheVariants.{AllMet, Unmet}
use Rattle.judging.specs.declared.Side.TheVariants as side
use Rattle.judging.specs.Judgements.{Finds}

module _ (b v : List ℕ) (s : Progress) (a : Assignment) where
  abbrev u : Question
  u = asked b s

  abbrev es : List Extended
  es = extended_asked b s

  abbrev test : Constraint → Bool
  test c = not (meets_constraint u a c)

  abbrev from : ℕ
  from = constraints_from b s.literals

  abbrev count : ℕ
  count = s.constraints + s.extended

  -- ---- one constraint more

  -- the first k constraints are met
  abbrev pub MetTo : ℕ → Type 0
  MetTo k = lowest test (constraints_at b k from) ≡ none

  pub met_none : MetTo 0
  unfolding lowest constraints_at
  met_none = refl

  module _ (k at : ℕ) (before : MetTo k) (here : at ≡ skip b k from) where
    one_more : constraints_at b (suc k) from ≡ constraints_at b k from ++ (constraint_at b at ∷ [])
    one_more = constraints_snoc b k from ∙ ap (λ (z : ℕ). constraints_at b k from ++ (constraint_at b z ∷ [])) (sym here)

    pub met_more : meets_constraint u a (constraint_at b at) ≡ true → MetTo (k + 1)
    met_more e =
        ap (λ (m : ℕ). lowest test (constraints_at b m from)) (add-one k)
        ∙ ap (lowest test) one_more
        ∙ lowest_behind test (constraints_at b k from) (constraint_at b at) before (ap not e)

  -- ---- what is found

  module _ (posed : Posed b s) where
    -- the constraints stand one after another
    in_line : constraints_of u es ≡ constraints_at b count from
    unfolding asked extended_asked
    in_line = all_constraints b (numbers_of s) posed.to posed.stands

    module _ (k at : ℕ) (before : MetTo k) (here : at ≡ skip b k from) (few : k < count) (e : meets_constraint u a (constraint_at b at) ≡ false) where
      first_here : first_unmet u es a ≡ some k
      first_here =
          lowest_taken test (constraints_of u es) (suc k) k
          (ap (lowest test) (ap (take (suc k)) in_line ∙ take_constraints b (suc k) count from (omega arith) ∙ one_more k at before here)
          ∙ lowest_next test (constraints_at b k from) (constraint_at b at) before (ap not e)
          ∙ ap some (length_constraints b k from))

      pub finds_unmet : {to : ℕ} → to ≡ next b at
          → Finds b v (Submitted u es a) (record { said = Ok (Unmet k); shown = record { side = side.Question; from = at; to = to } })
      finds_unmet {to} end =
          let first : some k ≡ first_unmet u es a = sym first_here in
          let place : at ≡ skip b k (constraints_from b (length u.literals)) =
          here ∙ ap (λ l. skip b k (constraints_from b l)) (sym (literal_count b s)) in
          record { says = ap said_of first; shows = rw end (ap (record_shown of_question b) place) ∙ ap (unmet_shown b u) first }

    pub finds_all_met : (k : ℕ) → MetTo k → k ≡ count
        → Finds b v (Submitted u es a) (record { said = Ok AllMet; shown = record { side = side.Question; from = 0; to = 0 } })
    finds_all_met k before e =
        let first : none ≡ first_unmet u es a = sym before ∙ ap (λ (m : ℕ). lowest test (constraints_at b m from)) e ∙ ap (lowest test) (sym in_line) in
        record { says = ap said_of first; shows = ap (unmet_shown b u) first }

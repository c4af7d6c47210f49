-- ThL1: the part that judging shows lies within its side, and is the record concerned. ThL3Counted: every constraint is a record of its number.
use Prim.Native.Nat.{ℕ, zero, suc, ◌+◌, ◌<◌, ◌≤◌}
use native.Mathlib.Omega.{arith}
use mathlib.Core.Path.{◌≡◌, refl, sym, ◌∙◌, ap, ap₂, subst}
use mathlib.Core.Bool.{Bool, true, false, cond, ◌&&◌}
use mathlib.Core.Option.{Option, none, some}
use mathlib.Core.List.{List}
use lib.ListN.{length, get_elem?}
use lib.Dec.{leb, eqb}
use borrow.Author.Tests.{le-leb, leb-true, ne_eqb}
use Rattle.lists.specs.Lists.{All}
use Rattle.lists.proofs.Lists.{all_values_along}
use Rattle.calculus.specs.Facts.{Question}
use Rattle.calculus.specs.Meaning.{Assignment}
use Rattle.calculus.specs.Extended.{Extended, Names, Constraint, constraints_of, MeetsConstraint}
use Rattle.lists.proofs.Searches.{FirstWithout}
use Rattle.format.specs.Fields.{u16}
use Rattle.format.specs.Records.{size, next, records}
use Rattle.format.specs.Question.{constraint_count, extended_by, by_head}
use Rattle.format.specs.Question.{head_rank, Progress, Reading, Stopped, Ended, judging_manner, judged_question}
use Rattle.format.specs.Places.{skip, extended_at, constraint_at, extendeds_at, literals_from, constraints_from, extended_from, Numbers, read_to}
use Rattle.format.specs.Standing.{StandsTo}
use Rattle.format.specs.Answer.{answer_form, assignment_of, outside}
use Rattle.format.specs.Judging.{Submission, Rejected, Submitted, by_form, judge_answer, judge_behind, submission, first_unmet, said_of}
use Rattle.format.specs.Judging.{Side, of_question, of_answer, record_shown, nothing_shown, refusal_shown, unmet_shown, shown_by}
use Rattle.format.specs.Demands.{ShowsRecord, Shows, ThL1, ThL3Counted}
use Rattle.format.proofs.Faults.{clash}
use Rattle.format.proofs.Records.{record_numbered}
use Rattle.format.proofs.Places.{skip_add, length_texts, constraint_at_law}
use Rattle.format.proofs.Refusals.{refusal_up_to}
use Rattle.format.proofs.Standing.{question_stood, all_constraints, constraint_whole}
use Rattle.format.proofs.Answers.{record_whole, outside_place}
use Rattle.format.proofs.Judged.{first_unmet_law}
use Rattle.format.proofs.Asked.{read_few}
use Rattle.format.proofs.RecordFaults.{extended_constraint_formed}
use Rattle.format.proofs.Extended.{judged_counted}
use Rattle.calculus.proofs.Extended.{length_constraints_of}

-- ---- parts

within : (from to size : ℕ) → from ≤ to → to ≤ size → (leb from to && leb to size) ≡ true
within from to size h g = ap₂ ◌&&◌ (le-leb from to h) (le-leb to size g)

record_of : (side : Side) (b : List ℕ) (r : ℕ) → next b (skip b r 0) ≤ length b → ShowsRecord side b r (record_shown side b (skip b r 0))
record_of side b r w = record { side_is = refl; from_is = record_numbered b r 0 (omega arith); to_is = refl }

-- a refusal of the question shows nothing
pub nothing_up_to : (v : List ℕ) (c r : ℕ) → c ≤ 10 → refusal_shown v c r ≡ nothing_shown
nothing_up_to v c r h = rw (ne_eqb c 15 (λ e. omega arith), ne_eqb c 16 (λ e. omega arith))

-- ---- refusals

module _ (b v : List ℕ) where
  shows_nothing : (c r : ℕ) → c ≤ 10 → Shows b v (Rejected c r) (refusal_shown v c r)
  shows_nothing c r h = subst (Shows b v (Rejected c r)) (sym (nothing_up_to v c r h)) (record {
    lies_within = within 0 0 (length b) (omega arith) (omega arith);
    unmet = λ u es a k e g. clash cc;
    out_of_range = λ i e. let z : c ≡ 16 = cc in absurd (omega arith);
    unformed = λ i e. let z : c ≡ 15 = cc in absurd (omega arith);
    refused = λ d i e x y. refl;
    all_met = λ e. refl;
  })

  shows_answer : Shows b v (Rejected 15 0) (refusal_shown v 15 0)
  shows_answer = record {
    lies_within = within 0 (length v) (length v) (omega arith) (omega arith);
    unmet = λ u es a k e g. clash cc;
    out_of_range = λ i e. let z : ◌≡◌ {A = ℕ} 15 16 = cc in absurd (omega arith);
    unformed = λ i e. refl;
    refused = λ d i e x y. let z : d ≡ 15 = cc in absurd (x z);
    all_met = λ e. clash cc;
  }

  shows_record : (r : ℕ) → next v (skip v r 0) ≤ length v → Shows b v (Rejected 16 r) (refusal_shown v 16 r)
  shows_record r w = record {
    lies_within = within (skip v r 0) (next v (skip v r 0)) (length v) (omega arith) w;
    unmet = λ u es a k e g. clash cc;
    out_of_range = λ i e. let z : r ≡ i = cc in subst (λ i. ShowsRecord of_answer v i (refusal_shown v 16 r)) z (record_of of_answer v r w);
    unformed = λ i e. let z : ◌≡◌ {A = ℕ} 15 16 = cc in absurd (omega arith);
    refused = λ d i e x y. let z : d ≡ 16 = cc in absurd (y z);
    all_met = λ e. clash cc;
  }

-- ---- constraints

-- constraint k of a question that stands is the record after the head, the literals and the constraints before it
module _ (b : List ℕ) (t : Numbers) (to : ℕ) (stands : StandsTo b t to) (head : head_rank ≤ t.last) where
  abbrev asked : Question
  asked = (read_to b t).question

  abbrev also : List Extended
  also = (read_to b t).extended

  abbrev literals : ℕ
  literals = length asked.literals

  -- its position, by its number and by the record's
  numbered : (k : ℕ) → skip b k (constraints_from b literals) ≡ skip b (1 + literals + k) 0
  unfolding skip
  numbered k =
      let one : suc literals ≡ 1 + literals = omega arith in
      ap (λ z. skip b k (skip b literals z)) (sym (stands.head_ends head)) ∙ ap (λ m. skip b k (skip b m 0)) one ∙ sym (skip_add b (1 + literals) k 0)

  -- it is whole, and is read there
  constraint_there : (k : ℕ) {c : Constraint} → get_elem? (constraints_of asked also) k ≡ some c
      → (next b (skip b k (constraints_from b literals)) ≤ length b) × (c ≡ constraint_at b (skip b k (constraints_from b literals)))
  constraint_there k {c} at =
      let count : ℕ = t.constraints + t.extended in
      let (few, reads) =
      constraint_at_law b k count (constraints_from b t.literals)
      (subst (λ cs. get_elem? cs k ≡ some c) (all_constraints b t to stands) at) in
      let here : skip b k (constraints_from b t.literals) ≡ skip b k (constraints_from b literals) =
      ap (λ l. skip b k (constraints_from b l)) (sym (length_texts b t.literals literals_from)) in
      (subst (λ z. next b z ≤ length b) here (constraint_whole b t to stands head k few), sym reads ∙ ap (constraint_at b) here)

  module _ (v : List ℕ) (a : Assignment) where
    shows_judged : (o : Option ℕ) → first_unmet asked also a ≡ o → FirstWithout (MeetsConstraint asked a) (constraints_of asked also) o
        → Shows b v (Submitted asked also a) (unmet_shown b asked o)
    shows_judged none e h = record {
      lies_within = within 0 0 (length b) (omega arith) (omega arith);
      unmet = λ u es a' k p g. clash cc;
      out_of_range = λ i p. clash cc;
      unformed = λ i p. clash cc;
      refused = λ d i p x y. refl;
      all_met = λ p. refl;
    }
    shows_judged (some k) e (f, at, not-met, before) =
        let from : ℕ = skip b k (constraints_from b literals) in
        let (whole, reads) = constraint_there k at in
        let r : ℕ = 1 + literals + k in
        let whole_there : next b (skip b r 0) ≤ length b = subst (λ z. next b z ≤ length b) (numbered k) whole in
        record {
          lies_within = within from (next b from) (length b) (omega arith) whole;
          unmet = λ u es a' i p g.
              let same : asked ≡ u = cc in
              let same-also : also ≡ es = cc in
              let named : said_of (some k) ≡ said_of (some i) = ap said_of (sym e) ∙ g in
              let m : k ≡ i = cc in (
                subst (λ z. ShowsRecord of_question b z (record_shown of_question b from)) (ap₂ (λ (w : Question) z. 1 + length w.literals + z) same m)
                    (subst (λ z. ShowsRecord of_question b r (record_shown of_question b z)) (sym (numbered k)) (record_of of_question b r whole_there)),
                subst (λ cs. get_elem? cs i ≡ some (constraint_at b from)) (ap₂ constraints_of same same-also)
                    (subst (λ z. get_elem? (constraints_of asked also) z ≡ some (constraint_at b from)) m (at ∙ ap some reads)),
              );
          out_of_range = λ i p. clash cc;
          unformed = λ i p. clash cc;
          refused = λ d i p x y. clash cc;
          all_met = λ p. clash cc;
        }

-- ---- the theorem

pub record_concerned : ThL1
unfolding submission
record_concerned b v = behind (judged_question b) refl
  where
    answered : (t : Numbers) (to : ℕ) → StandsTo b t to → head_rank ≤ t.last →
        let u : Question = (read_to b t).question in
        (x : Bool) (o : Option ℕ) → answer_form v u.p u.q 0 ≡ x → outside v u u.p 0 0 ≡ o →
        let j : Submission = by_form u (read_to b t).extended v x o in
        Shows b v j (shown_by b v j)
    answered t to stands head false o formed out = shows_answer b v
    answered t to stands head true (some r) formed out =
        let u : Question = (read_to b t).question in
        shows_record b v r (record_whole v u.p u.q formed r (omega (arith, outside_place v u u.p 0 0 r out)))
    answered t to stands head true none formed out =
        let u : Question = (read_to b t).question in
        let a : Assignment = assignment_of v u in
        let es : List Extended = (read_to b t).extended in
        shows_judged b t to stands head v a (first_unmet u es a) refl (first_unmet_law u es a)

    headed : (t : Numbers) (to r : ℕ) → StandsTo b t to → (x : Bool) → leb head_rank t.last ≡ x →
        let j : Submission = by_head Rejected (λ u es. judge_answer u es v) (read_to b t) r x in
        Shows b v j (shown_by b v j)
    headed t to r stands false e = shows_nothing b v 4 r (omega arith)
    headed t to r stands true e =
        let u : Question = (read_to b t).question in
        answered t to stands (leb-true head_rank t.last e) (answer_form v u.p u.q 0) (outside v u u.p 0 0) refl refl

    behind : (g : Reading) → judged_question b ≡ g → Shows b v (judge_behind g v) (shown_by b v (judge_behind g v))
    behind (Stopped c r) e = shows_nothing b v c r (refusal_up_to judging_manner b e)
    behind (Ended s at r) e =
        let (t, known, ends) = question_stood judging_manner b s at r e in
        subst (λ (s : Progress). Shows b v (judge_behind (Ended s at r) v) (shown_by b v (judge_behind (Ended s at r) v))) (sym known)
        (headed t at r ends.0 (leb head_rank t.last) refl)

-- ---- every constraint is a record, and names variables of the question

names_by : (u : Question) (g x y : ℕ) → g ≤ 4 → x < cond (eqb g 2) u.q u.p → y < cond (eqb g 3) u.q u.p → Names u (extended_by g x y)
names_by u zero x y h i j = (i, j)
names_by u (suc zero) x y h i j = (i, j)
names_by u (suc (suc zero)) x y h i j = (i, j)
names_by u (suc (suc (suc zero))) x y h i j = (i, j)
names_by u (suc (suc (suc (suc zero)))) x y h i j = (i, j)
names_by u (suc (suc (suc (suc (suc g))))) x y h i j = absurd (omega arith)

all_named : (b : List ℕ) (t : Numbers) (to : ℕ) → StandsTo b t to → All (Names (read_to b t).question) (read_to b t).extended
unfolding extendeds_at skip
all_named b t to stands = all_values_along (next b) (extended_at b) (Names u) (extended_from b t.literals t.constraints) t.extended names
  where
    u : Question
    u = (read_to b t).question

    names : (j : ℕ) → j < t.extended → Names u (extended_at b (skip b j (extended_from b t.literals t.constraints)))
    names j l =
        let at : ℕ = skip b j (extended_from b t.literals t.constraints) in
        let f = extended_constraint_formed b t.p t.q (at + 6) (size b at) (stands.extended_stand j l).formed in
        names_by u (u16 b (at + 6)) (u16 b (at + 6 + 2)) (u16 b (at + 6 + 4)) f.function f.first f.second

pub constraints_counted : ThL3Counted
constraints_counted b s at r e headed =
    let head : head_rank ≤ s.last = leb-true head_rank s.last headed in
    let (t, known, ends) = question_stood judging_manner b s at r e in
    let all_are : length (constraints_of s.question s.extended) ≡ constraint_count s = length_constraints_of s.question s.extended in
    record {
      all_counted = omega (arith, (judged_counted b e).behind_head head, all_are);
      few = omega (arith, read_few judging_manner refl b e, all_are);
      named = subst (λ (p : Progress). All (Names p.question) p.extended) (sym known) (all_named b t at ends.0);
      each_read =
          subst (λ (p : Progress). (k : ℕ) (c : Constraint) → get_elem? (constraints_of p.question p.extended) k ≡ some c → There p.question k c) (sym known)
          (each t ends.0 (subst (λ (p : Progress). head_rank ≤ p.last) known head));
    }
  where
    There : Question → ℕ → Constraint → Type 0
    There u k c = (i : ℕ) × (get_elem? (records b 0) (1 + length u.literals + k) ≡ some i) × (next b i ≤ length b) × (c ≡ constraint_at b i)

    each : (t : Numbers) → StandsTo b t at → head_rank ≤ t.last → (k : ℕ) (c : Constraint)
        → get_elem? (constraints_of (read_to b t).question (read_to b t).extended) k ≡ some c
        → There (read_to b t).question k c
    each t stands head k c there =
        let u : Question = (read_to b t).question in
        let (whole, reads) = constraint_there b t at stands head k there in
        let here = numbered b t at stands head k in
        let whole_there : next b (skip b (1 + length u.literals + k) 0) ≤ length b = subst (λ z. next b z ≤ length b) here whole in
        (skip b (1 + length u.literals + k) 0, record_numbered b (1 + length u.literals + k) 0 (omega arith), whole_there, reads ∙ ap (constraint_at b) here)

-- ThL3Absent: in a ticket that is accepted, or whose need is reported, no record is of kind 11.
use Prim.Native.Nat.{ℕ, ◌+◌, ◌<◌, ◌≤◌}
use native.Mathlib.Omega.{arith}
use native.Mathlib.Decide.{dec_le}
use mathlib.Core.Path.{◌≡◌, refl, sym, ◌∙◌, ap, subst}
use mathlib.Core.Logic.{◌≢◌}
use mathlib.Core.Bool.{Bool}
use mathlib.Core.Option.{Option}
use mathlib.Core.List.{List, [], ◌∷◌}
use lib.ListN.{length}
use lib.IntN.{ℤ}
use Rattle.lists.specs.Lists.{All}
use Rattle.lists.proofs.Lists.{all_at, all_map}
use Rattle.calculus.specs.Facts.{Question}
use Rattle.calculus.specs.Steps.{Step}
use Rattle.calculus.specs.Rules.{children}
use Rattle.format.specs.Records.{kind, next, records}
use Rattle.format.specs.Question.{extended_kind, extended_rank, rank_of, Progress, Manner, form_manner, ending, question_form}
use Rattle.format.specs.Checking.{Outcome, Refused, NoSolution, Strings, verdict}
use Rattle.format.specs.Reading.{Ticket, Faulty, Done, read_behind}
use Rattle.format.specs.Needs.{Needs, Report, need_by, report_of, needed}
use Rattle.format.specs.ProperForm.{by_shape}
use Rattle.format.specs.Demands.{AcceptedAs, ThL3Absent}
use Rattle.format.proofs.Faults.{clash, not_both}
use Rattle.format.proofs.Records.{records_none, records_more}
use Rattle.format.proofs.RecordFaults.{uncrowded, rank_extended, not_extended}
use Rattle.format.proofs.Asked.{Reads, ended, further, whole→}
use Rattle.format.proofs.Behind.{Formed, formed_kinds}
use Rattle.format.proofs.Claimed.{Claimed, behind_claim, ticket→}
use Rattle.format.proofs.NoSolution.{accepted→closed}
use Rattle.format.proofs.Strings.{accepted→given}

-- the records of some positions are of other kinds
abbrev NoneOf : List ℕ → List ℕ → Type 0
NoneOf b ats = All (λ i. kind b i ≢ extended_kind) ats

-- ---- the question

-- the positions from i on begin with i
from_first : (b : List ℕ) (i at : ℕ) (ats : List ℕ) → (at ∷ ats) ≡ records b i → (at ≡ i) × (ats ≡ records b (next b at))
from_first b i at ats e = go (dec_le (i + 6) (length b))
  where
    go : Dec (i + 6 ≤ length b) → (at ≡ i) × (ats ≡ records b (next b at))
    go (yes h) =
        let both : (at ∷ ats) ≡ (i ∷ records b (next b i)) = e ∙ records_more b i h in
        let first : at ≡ i = cc in
        let rest : ats ≡ records b (next b i) = cc in
        (first, rest ∙ ap (λ j. records b (next b j)) (sym first))
    go (no h) = let none : (at ∷ ats) ≡ [] = e ∙ records_none b i (omega arith) in clash cc

-- up to the claim, and after it
reads_none : (m : Manner) → m.greatest < extended_rank → {b : List ℕ} {s t : Progress} {r to q : ℕ} {ats : List ℕ} → Reads m b s r ats t to q
    → (i : ℕ) → ats ≡ records b i → NoneOf b (records b (next b to)) → NoneOf b ats
reads_none m l {b} (ended {at = at} {ats = ats} k) i e h =
    let (_, rest) = from_first b i at ats e in
    ((λ z. not_both (ending (kind b at)) k (ap ending z)), subst (NoneOf b) (sym rest) h)
reads_none m l {b} (further {s = s} {at = at} {ats = ats} k c g) i e h =
    let (_, rest) = from_first b i at ats e in
    ((λ z. not_extended m.greatest b s at l (uncrowded m b s at c).0 (ap rank_of z ∙ rank_extended)), reads_none m l g (next b at) rest h)

-- ---- the ticket

claimed_none : {b : List ℕ} {u : Question} (c : Claimed b (question_form b) u) (ok : Step → ℕ → Bool) (ts : List (Step × ℕ)) (o : Option (List ℤ))
    → Formed b u ok (behind_claim c) ts o → NoneOf b (records b 0)
claimed_none {b} {u} c ok ts o f =
    reads_none form_manner (omega arith) (whole→ form_manner b c.ended).1 0 refl
    (all_map (records b (next b c.position)) (λ i h z. omega (arith, h.0, h.1)) (formed_kinds b u ok ts o (next b c.position) f))

pub extended_absent : ThL3Absent
unfolding needed
extended_absent t r (at, there, is, w) = (λ work answer claim a. accepted work answer claim (verdict work answer t) refl a, reported)
  where
    absent : NoneOf t (records t 0) → ⊥
    absent h = all_at (λ i. kind t i ≢ extended_kind) (records t 0) r h there is

    accepted : (work answer claim : ℕ) (o : Outcome) → verdict work answer t ≡ o → AcceptedAs claim o → ⊥
    accepted work answer claim (Refused c r) e a = a
    accepted work answer claim NoSolution e a =
        let (u, k) = accepted→closed children work answer t e in absent (claimed_none k.held.claimed _ _ _ k.held.formed)
    accepted work answer claim (Strings given) e a =
        let (u, k) = accepted→given children work answer t given e in absent (claimed_none k.held.claimed _ _ _ k.held.formed)

    reported : (rep : Report) → need_by (report_of t) (read_behind by_shape t (question_form t)) ≡ Needs rep → ⊥
    reported rep e = go (read_behind by_shape t (question_form t)) refl e
      where
        go : (x : Ticket ℕ ℕ) → read_behind by_shape t (question_form t) ≡ x → need_by (report_of t) x ≡ Needs rep → ⊥
        go (Faulty c i) p e = clash cc
        go (Done u s q) p e = let (c, x, k, read) = ticket→ by_shape t (question_form t) p in absent (claimed_none c _ _ _ read.formed)

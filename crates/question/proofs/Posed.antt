-- A question that was read after its head may be worked on, and what it gives besides what its standing says.
use Prim.Native.Nat.{ℕ, zero, suc, ◌+◌, ◌/◌, ◌≤◌}
use native.Mathlib.Nat.{div-le_of_le-mul}
use native.Mathlib.Numerals.{add-one}
use native.Mathlib.Omega.{arith}
use mathlib.Core.Path.{◌≡◌, sym, ◌∙◌, ap, subst}
use mathlib.Core.Bool.{Bool, true}
use mathlib.Core.List.{List, []}
use lib.ListN.{length, get_or}
use lib.Dec.{leb}
use borrow.Author.Tests.{le-leb, lt-leb}
use Rattle.calculus.specs.Limits.{alphabet_limit, length_limit, Small}
use Rattle.calculus.specs.Facts.{Question, literal, code_of}
use Rattle.calculus.specs.Extended.{Extended}
use Rattle.calculus.specs.Classes.{lowest_literal, literal_in}
use Rattle.format.specs.Records.{size}
use Rattle.format.specs.Question as format
use Rattle.format.specs.Question.{head_rank, read_in, judged_question, by_head, by_reading}
use Rattle.format.specs.Places.{skip, texts, literals_from}
use Rattle.format.proofs.Fields.{length_u32s}
use Rattle.format.proofs.Places.{text_at_law, length_texts}
use Rattle.format.proofs.Standing.{literals_within, question_stands, question_short, question_few}
use Rattle.question.specs.declared.Progress.{Progress}
use Rattle.question.specs.Progress.{numbers_of, progress_of}
use Rattle.question.specs.Posed.{asked, Posed}
use Rattle.question.proofs.Texts.{code_small}

pub question_posed : (m : format.Manner)
    → m.limited ≡ true
    → (b : List ℕ) (t : Progress) (to q : ℕ)
    → read_in m b ≡ format.Ended (progress_of b t) to q
    → head_rank ≤ t.last
    → Posed b t
question_posed m l b t to q e h = record {
  to = to;
  stands = (question_stands m b (numbers_of t) to q e).0;
  head = h;
  short = question_short m b (progress_of b t) to q e;
  few_constraints = question_few m l b (numbers_of t) to q e;
}

-- how many literals there are besides the empty one
pub literal_count : (b : List ℕ) (s : Progress) → length (asked b s).literals ≡ s.literals
unfolding asked
literal_count b s = length_texts b s.literals literals_from

-- the literal of a class is the lowest of these and the empty one
pub literal_in_law : (b : List ℕ) (s : Progress) (ls : List ℕ) (x : ℕ) → literal_in (asked b s) ls x ≡ lowest_literal ls x 0 (s.literals + 1)
literal_in_law b s ls x = ap (λ (m : ℕ). lowest_literal ls x 0 m) (ap suc (literal_count b s) ∙ sym (add-one s.literals))

module _ {b : List ℕ} {s : Progress} (h : Posed b s) where
  pub some_character : 1 ≤ s.n
  some_character = h.stands.some_character h.head

  -- the first l literals are within the bytes, and so are all
  pub literals_to : (l : ℕ) → l ≤ s.literals → skip b l literals_from ≤ length b
  literals_to l few = literals_within b (numbers_of s) h.to l h.stands h.head few

  pub literals_whole : skip b s.literals literals_from ≤ length b
  literals_whole = literals_to s.literals (omega arith)

  -- the length and the code of each are small
  pub literal_short : (l : ℕ) → l ≤ s.literals → length (literal (asked b s) l) ≤ length_limit
  unfolding asked
  literal_short zero g = omega arith
  literal_short (suc j) g =
      let k : ℕ = size b (skip b j literals_from) in
      let e : length (get_or (texts b s.literals literals_from) j []) ≡ k / 4 =
      ap length (text_at_law b j s.literals literals_from (omega arith)) ∙ length_u32s b (skip b j literals_from + 6) (k / 4) in
      let f : k / 4 ≤ length_limit = div-le_of_le-mul 4 (h.stands.literals_stand j (omega arith)).short in
      omega arith

  pub literal_code : (l : ℕ) → l ≤ s.literals → Small alphabet_limit (code_of (literal (asked b s) l))
  unfolding asked
  literal_code zero g = omega arith
  literal_code (suc j) g =
      subst (λ (t : List ℕ). Small alphabet_limit (code_of t)) (sym (text_at_law b j s.literals literals_from (omega arith)))
      (code_small s.n _ h.stands.few_characters (h.stands.literals_stand j (omega arith)).characters_over)

-- ---- what is said of a question as judging reads it

module _ {A : Type 0} (refused : ℕ → ℕ → A) (said : Question → List Extended → A) (b : List ℕ) where
  pub said_stopped : {c r : ℕ} → judged_question b ≡ format.Stopped c r → by_reading refused said (judged_question b) ≡ refused c r
  said_stopped e = ap (by_reading refused said) e

  module _ {s : format.Progress} {at r : ℕ} (e : judged_question b ≡ format.Ended s at r) where
    ended : {t : Bool} → leb head_rank s.last ≡ t → by_reading refused said (judged_question b) ≡ by_head refused said s r t
    ended f = ap (by_reading refused said) e ∙ ap (by_head refused said s r) f

    -- "one with no head before it gives 4"
    pub said_headless : s.last ≡ 0 → by_reading refused said (judged_question b) ≡ refused 4 r
    said_headless f = ended (lt-leb head_rank s.last (omega arith))

    pub said_headed : head_rank ≤ s.last → by_reading refused said (judged_question b) ≡ said s.question s.extended
    said_headed f = ended (le-leb head_rank s.last f)

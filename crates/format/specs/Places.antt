-- A question by position: the literals' texts and the constraints in the records where they stand. An answer's strings stand as texts too.
use Rattle.std.specs.Prelude.{ℕ, ◌+◌, cond, List, eqb}
use Rattle.lists.specs.Lists.{place_after, values_along}
use Rattle.calculus.specs.Facts.{Fact}
use Rattle.calculus.specs.Extended.{Extended, Constraint, basic, extended}
use Rattle.format.specs.Records.{size, kind, next}
use Rattle.format.specs.Question.{extended_kind, Progress, text_of, body_fact, extended_of}

-- the position after k records
unfoldable pub skip : List ℕ → ℕ → ℕ → ℕ
skip b k at = place_after (next b) at k

-- what the record at a position says: a literal, a constraint of the question, an extended one, and a constraint of either sort by its kind
abbrev pub text_at : List ℕ → ℕ → List ℕ
text_at b at = text_of b (at + 6) (size b at)

abbrev pub fact_at : List ℕ → ℕ → Fact
fact_at b at = body_fact b (kind b at) (at + 6) (size b at)

abbrev pub extended_at : List ℕ → ℕ → Extended
extended_at b at = extended_of b (at + 6)

abbrev pub constraint_at : List ℕ → ℕ → Constraint
constraint_at b at = cond (eqb (kind b at) extended_kind) (extended (extended_at b at)) (basic (fact_at b at))

-- those of k records one after another, the first at a position
unfoldable pub texts : List ℕ → ℕ → ℕ → List (List ℕ)
texts b k at = values_along (next b) (text_at b) at k

unfoldable pub facts_at : List ℕ → ℕ → ℕ → List Fact
facts_at b k at = values_along (next b) (fact_at b) at k

unfoldable pub extendeds_at : List ℕ → ℕ → ℕ → List Extended
extendeds_at b k at = values_along (next b) (extended_at b) at k

unfoldable pub constraints_at : List ℕ → ℕ → ℕ → List Constraint
constraints_at b k at = values_along (next b) (constraint_at b) at k

-- the first literal stands after the head, at position 14, the first constraint after the literals, and the first extended one after the others
abbrev pub literals_from : ℕ
literals_from = 14

abbrev pub constraints_from : List ℕ → ℕ → ℕ
constraints_from b literals = skip b literals literals_from

abbrev pub extended_from : List ℕ → ℕ → ℕ → ℕ
extended_from b literals constraints = skip b constraints (constraints_from b literals)

-- what was read, in numbers: the last rank, n, p and q, and how many literals, after them constraints, and after these extended ones stand in the bytes
pub record Numbers : Type 0 where
  pub last : ℕ
  pub n : ℕ
  pub p : ℕ
  pub q : ℕ
  pub literals : ℕ
  pub constraints : ℕ
  pub extended : ℕ

-- what was read, from the bytes and these numbers alone. A loop that keeps the numbers keeps the question.
abbrev pub read_to : List ℕ → Numbers → Progress
read_to b s = record {
  last = s.last;
  question = record {
    n = s.n;
    p = s.p;
    q = s.q;
    literals = texts b s.literals literals_from;
    constraints = facts_at b s.constraints (constraints_from b s.literals);
  };
  extended = extendeds_at b s.extended (extended_from b s.literals s.constraints);
}

-- What checking promises, by the sizes of the lent buffers.
use Prim.Native.Nat.{ℕ, ◌<◌, ◌≤◌}
use mathlib.Core.Path.{◌≡◌, refl, sym, ◌∙◌, ap, ap₂}
use mathlib.Core.Bool.{Bool, true, false}
use mathlib.Core.List.{List, []}
use lib.ListN.{length, replicate}
use lib.IntN.{ℤ, pos}
use borrow.Author.Tests.{le-leb, lt-leb, ne_eqb}
use Rattle.calculus.specs.Limits.{work_numbers, answer_bytes}
use Rattle.calculus.specs.Rules.{children}
use Rattle.format.specs.Question.{question}
use Rattle.format.specs.Reading.{read_behind}
use Rattle.format.specs.Checking as format
use Rattle.format.specs.Checking.{checker, outcome_of, large_enough, verdict_by, verdict}
use Rattle.format.specs.Cores.{core, core_of}
use Rattle.format.specs.Demands.{work_after}
use Rattle.std.specs.Prelude.{Result, Err}
use Rattle.faults.specs.Numbers.{number}
use Rattle.faults.specs.declared.Fault.TheVariants.{SmallBuffer}
use Rattle.faults.specs.declared.Refusal.{Refusal}
use Rattle.deciding.specs.declared.Verdict.{Verdict}
use Rattle.deciding.specs.Outcomes.{Refused, told, Decided}
use Rattle.checking.specs.Outcomes.{Promised}
use Rattle.format.proofs.Sizes.{OtherThanOne, never_one}

-- "with every other outcome the empty set", of which nothing is told
set_told : (b : List ℕ) (o : format.Outcome) → told o (core b) ≡ told o (core_of o b)
unfolding told
set_told b (format.Refused c r) = refl
set_told b format.NoSolution = refl
set_told b (format.Strings given) = refl

module _ (b : List ℕ) (w : List ℤ) (a : List ℕ) where
  abbrev by_size : Bool → format.Outcome
  by_size x = elim x as (λ _. format.Outcome) [ false ↦ format.Refused 1 0 | true ↦ outcome_of (read_behind checker b (question b)) ]

  sized : {x : Bool} → large_enough (length w) (length a) ≡ x → verdict (length w) (length a) b ≡ by_size x
  unfolding verdict_by
  sized e = ap by_size e

  -- "1 when the work area has under 6,400 numbers or the answer buffer under 4,268 bytes"
  small : (f : Refusal) → (f.fault ≡ SmallBuffer) × (f.«record» ≡ 0) → large_enough (length w) (length a) ≡ false → Promised b w w a a (Err f)
  unfolding told
  small f h e = record {
    outcome = format.Refused 1 0;
    set = [];
    checked = record { outcome = sym (sized e); took_part = refl; work_is = refl; answer_is = refl };
    tells = ap₂ Refused (ap number h.0) h.1;
  }

  pub small_work : (f : Refusal) → (f.fault ≡ SmallBuffer) × (f.«record» ≡ 0) → length w < work_numbers → Promised b w w a a (Err f)
  small_work f e h = small f e (rw (lt-leb work_numbers (length w) h))

  pub small_answer : (f : Refusal) → (f.fault ≡ SmallBuffer) × (f.«record» ≡ 0) → work_numbers ≤ length w → length a < answer_bytes → Promised b w w a a (Err f)
  small_answer f e g h = small f e (rw (le-leb work_numbers (length w) g, lt-leb answer_bytes (length a) h))

  -- "The whole work area, numbers past 6,400 too, is zero after every call"
  cleared : (o : format.Outcome) → OtherThanOne o → replicate (length w) (pos 0) ≡ work_after o w
  cleared (format.Refused c r) other = rw (ne_eqb c 1 other)
  cleared format.NoSolution other = refl
  cleared (format.Strings given) other = refl

  pub decided : {w' : List ℤ} {a' : List ℕ} {r : Result Verdict Refusal} → work_numbers ≤ length w → answer_bytes ≤ length a → w' ≡ replicate (length w) (pos 0)
      → Decided (outcome_of (read_behind checker b (question b))) (core b) a a' r → Promised b w w' a a' r
  decided g h z d = record {
    outcome = outcome_of (read_behind checker b (question b));
    set = core_of (outcome_of (read_behind checker b (question b))) b;
    checked = record {
      outcome = sym (sized {x = true} (rw (le-leb work_numbers (length w) g, le-leb answer_bytes (length a) h)));
      took_part = refl;
      work_is = z ∙ cleared (outcome_of (read_behind checker b (question b))) (never_one children b);
      answer_is = d.answer_is;
    };
    tells = d.tells ∙ set_told b (outcome_of (read_behind checker b (question b)));
  }

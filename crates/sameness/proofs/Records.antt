-- Extended constraints in the bytes: when two bodies are alike, and those of a question one after another.
use Prim.Native.Nat.{ℕ, zero, suc, ◌+◌, ◌-◌, ◌≤◌, ◌<◌}
use native.Mathlib.Omega.{arith}
use mathlib.Core.Path.{◌≡◌, refl, sym, ◌∙◌, ap, ap₂}
use mathlib.Core.Bool.{Bool, true, false, cond, ◌&&◌, and-true}
use mathlib.Core.List.{List, [], ◌∷◌, map}
use lib.ListN.{length}
use lib.Dec.{eqb, eqb→eq}
use borrow.Author.Tests.{eq-eqb}
use Rattle.lists.specs.Lists.{all, count}
use Rattle.lists.proofs.Lists.{down}
use Rattle.lists.proofs.Every.{along_done, along_one, every_made}
use Rattle.lists.proofs.Tests.{true→, equal_tests}
use Rattle.calculus.specs.Facts.{Question}
use Rattle.calculus.specs.Strings.{eq_string}
use Rattle.calculus.specs.Extended.{Constraint, extended}
use Rattle.calculus.specs.NormalForms.{function_number, fields_of, alike, occurrences, agrees_on, agrees_by}
use Rattle.format.specs.Sameness.{agreement}
use Rattle.format.specs.Fields.{u16}
use Rattle.format.specs.Records.{size, next}
use Rattle.format.specs.Question.{extended_by, extended_of}
use Rattle.format.specs.Places.{skip, extended_at, extendeds_at, extended_from}
use Rattle.format.proofs.Places.{skip_far}
use Rattle.format.proofs.RecordFaults.{extended_constraint_formed}
use Rattle.question.specs.declared.Progress.{Progress}
use Rattle.question.specs.Posed.{extended_asked, Posed}
use Rattle.sameness.specs.Ready.{extended_in}

-- ---- two bodies

function_is : (f x y : ℕ) → f ≤ 4 → function_number (extended_by f x y) ≡ f
function_is zero x y h = refl
function_is (suc zero) x y h = refl
function_is (suc (suc zero)) x y h = refl
function_is (suc (suc (suc zero))) x y h = refl
function_is (suc (suc (suc (suc f)))) x y h = omega arith

fields_are : (f x y : ℕ) → fields_of (extended_by f x y) ≡ x ∷ y ∷ []
fields_are zero x y = refl
fields_are (suc zero) x y = refl
fields_are (suc (suc zero)) x y = refl
fields_are (suc (suc (suc zero))) x y = refl
fields_are (suc (suc (suc (suc f)))) x y = refl

same_tags : (f g : ℕ) → eqb (6 + f) (6 + g) ≡ eqb f g
same_tags f g =
    equal_tests (eqb (6 + f) (6 + g)) (eqb f g) (λ h. true→ (eq-eqb f g (omega (arith, eqb→eq (6 + f) (6 + g) h))))
    (λ h. true→ (eq-eqb (6 + f) (6 + g) (omega (arith, eqb→eq f g h))))

module _ (b c : List ℕ) (x y : ℕ) (f : u16 b x ≤ 4) (g : u16 c y ≤ 4) (u v : Question) where
  pub fields_alike : alike u v (extended (extended_of b x)) (extended (extended_of c y))
      ≡ (eqb (u16 b x) (u16 c y) && (eqb (u16 b (x + 2)) (u16 c (y + 2)) && eqb (u16 b (x + 4)) (u16 c (y + 4))))
  unfolding alike
  fields_alike =
      let second : Bool = eqb (u16 b (x + 2)) (u16 c (y + 2)) in
      let last : Bool = eqb (u16 b (x + 4)) (u16 c (y + 4)) in
      ap₂ ◌&&◌ (ap₂ (λ i j. eqb (6 + i) (6 + j)) (function_is (u16 b x) _ _ f) (function_is (u16 c y) _ _ g) ∙ same_tags (u16 b x) (u16 c y))
      (and-true _ ∙ ap₂ eq_string (fields_are (u16 b x) _ _) (fields_are (u16 c y) _ _) ∙ ap (λ (t : Bool). second && t) (and-true last))

  -- by the fields that were read, in turn of the one and of the other
  pub bodies_alike : {i j k l m n : ℕ}
      → i ≡ u16 b x
      → j ≡ u16 c y
      → k ≡ u16 b (x + 2)
      → l ≡ u16 c (y + 2)
      → m ≡ u16 b (x + 4)
      → n ≡ u16 c (y + 4)
      → alike u v (extended (extended_of b x)) (extended (extended_of c y)) ≡ (eqb i j && (eqb k l && eqb m n))
  bodies_alike ei ej ek el em en = fields_alike ∙ sym (ap₂ ◌&&◌ (ap₂ eqb ei ej) (ap₂ ◌&&◌ (ap₂ eqb ek el) (ap₂ eqb em en)))

-- ---- one after another

-- the record at a position is whole, and its body is an extended constraint's
pub record BodyAt (b : List ℕ) (at : ℕ) : Type 0 where
  pub whole : next b at ≤ length b
  pub there : at + 6 + 6 ≤ length b
  pub function : u16 b (at + 6) ≤ 4

-- k records, the first at a position
abbrev pub Bodies : List ℕ → ℕ → ℕ → Type 0
Bodies b k at = (j : ℕ) → j < k → BodyAt b (skip b j at)

module _ (b : List ℕ) (k at : ℕ) (h : 0 < k) (g : Bodies b k at) where
  pub first_body : BodyAt b at
  unfolding skip
  first_body = g 0 h

  other_bodies : Bodies b (k - 1) (next b at)
  unfolding skip
  other_bodies j l = g (suc j) (omega arith)

module _ (b : List ℕ) (s : Progress) (h : Posed b s) where
  abbrev from : ℕ
  from = extended_from b s.literals s.constraints

  pub constraints_whole : from ≤ length b
  constraints_whole = omega (arith, h.stands.ends_here h.head, h.stands.within, skip_far b s.extended from)

  pub posed_bodies : Bodies b s.extended from
  posed_bodies j l =
      let e = h.stands.extended_stand j l in
      let c = extended_constraint_formed b s.p s.q (skip b j from + 6) (size b (skip b j from)) e.formed in
      record { whole = e.whole; there = omega (arith, e.whole, c.six); function = c.function }

-- what is counted and tested of them
module _ (b : List ℕ) (t : Constraint → Bool) where
  counted_none : (k at : ℕ) → k ≤ 0 → count t (map extended (extendeds_at b k at)) ≡ 0
  unfolding count extendeds_at
  counted_none zero at h = refl
  counted_none (suc k) at h = absurd (omega arith)

  counted_one : (k at : ℕ) → 0 < k
      → count t (map extended (extendeds_at b k at)) ≡ cond (t (extended (extended_at b at))) 1 0 + count t (map extended (extendeds_at b (k - 1) (next b at)))
  unfolding count extendeds_at
  counted_one zero at h = absurd (omega arith)
  counted_one (suc k) at h = rw (down k)

  tested_none : (k at : ℕ) → k ≤ 0 → all t (map extended (extendeds_at b k at)) ≡ true
  unfolding extendeds_at
  tested_none k at h = every_made extended t (extendeds_at b k at) ∙ along_done (λ e. t (extended e)) (next b) (extended_at b) at k h

  tested_one : (k at : ℕ) → 0 < k
      → all t (map extended (extendeds_at b k at)) ≡ (t (extended (extended_at b at)) && all t (map extended (extendeds_at b (k - 1) (next b at))))
  unfolding extendeds_at
  tested_one k at h =
      every_made extended t (extendeds_at b k at)
      ∙ along_one (λ e. t (extended e)) (next b) (extended_at b) at k h
      ∙ ap (λ a. t (extended (extended_at b at)) && a) (sym (every_made extended t (extendeds_at b (k - 1) (next b at))))

-- ---- how many are like the body at x: those of so many records from a position on

module _ (b : List ℕ) (x : ℕ) (c : List ℕ) (from whole : ℕ) where
  abbrev tally : Question → Question → ℕ → ℕ → ℕ
  tally u v k at = occurrences u v (extended (extended_of b x)) (map extended (extendeds_at c k at))

  -- some were found, and some are left
  pub record Counting (at found left : ℕ) : Type 0 where
    pub bodies : Bodies c left at
    pub few : found + left ≤ whole
    pub so_far : (u v : Question) → found + tally u v left at ≡ tally u v whole from

  pub counting_first : Bodies c whole from → Counting from 0 whole
  counting_first h = record { bodies = h; few = omega arith; so_far = λ u v. omega arith }

  pub counting_more : {at found left more : ℕ} {r : Bool}
      → 0 < left
      → Counting at found left
      → ((u v : Question) → r ≡ alike u v (extended (extended_of b x)) (extended (extended_at c at)))
      → more ≡ found + cond r 1 0
      → Counting (next c at) more (left - 1)
  counting_more {at} {found} {left} {more} {r} h i e f = record {
    bodies = other_bodies c left at h i.bodies;
    few = omega (arith, i.few, at_most_one r);
    so_far =
        λ u v.
        let one : numbered r ≡ numbered (alike u v (extended (extended_of b x)) (extended (extended_at c at))) = ap numbered (e u v) in
        omega (arith, i.so_far u v, counted_one c (alike u v (extended (extended_of b x))) left at h);
  }
    where
      numbered : Bool → ℕ
      numbered t = cond t 1 0

      at_most_one : (t : Bool) → numbered t ≤ 1
      at_most_one true = omega arith
      at_most_one false = omega arith

  pub counting_done : {at found left : ℕ} → left ≤ 0 → Counting at found left → (u v : Question) → found ≡ tally u v whole from
  counting_done {at} {found} {left} h i u v = omega (arith, i.so_far u v, counted_none c (alike u v (extended (extended_of b x))) left at h)

-- ---- whether each agrees with some constraints of another question

module _ (b : List ℕ) (s : Progress) (theirs : List Constraint) where
  abbrev agrees : Question → Question → Constraint → Bool
  agrees u v = agrees_on agreement u (extended_in b s) v theirs

  -- those before agree, and some are left
  pub record Agreeing (at left : ℕ) : Type 0 where
    pub bodies : Bodies b left at
    pub so_far : (u v : Question) → agrees_by agreement u (extended_in b s) v theirs ≡ all (agrees u v) (map extended (extendeds_at b left at))

  pub agreeing_first : Posed b s → Agreeing (extended_from b s.literals s.constraints) s.extended
  unfolding agrees_by extended_asked
  agreeing_first h = record { bodies = posed_bodies b s h; so_far = λ u v. refl }

  pub agreeing_done : {at left : ℕ} → left ≤ 0 → Agreeing at left → (u v : Question) → true ≡ agrees_by agreement u (extended_in b s) v theirs
  agreeing_done {at} {left} h i u v = sym (i.so_far u v ∙ tested_none b (agrees u v) left at h)

  module _ {at left mine others : ℕ} {r : Bool} (h : 0 < left) (i : Agreeing at left)
      (m : (u v : Question) → mine ≡ occurrences u v (extended (extended_at b at)) (extended_in b s))
      (o : (u v : Question) → others ≡ occurrences u v (extended (extended_at b at)) theirs)
      (e : r ≡ agreement mine others) where
    one : (u v : Question) → agrees_by agreement u (extended_in b s) v theirs ≡ (r && all (agrees u v) (map extended (extendeds_at b (left - 1) (next b at))))
    one u v =
        i.so_far u v
        ∙ tested_one b (agrees u v) left at h
        ∙ ap (λ t. t && all (agrees u v) (map extended (extendeds_at b (left - 1) (next b at)))) (sym (e ∙ ap₂ agreement (m u u) (o u v)))

    pub agreeing_more : r ≡ true → Agreeing (next b at) (left - 1)
    agreeing_more t = record { bodies = other_bodies b left at h i.bodies; so_far = λ u v. one u v ∙ rw t }

    pub agreeing_not : r ≡ false → (u v : Question) → false ≡ agrees_by agreement u (extended_in b s) v theirs
    agreeing_not t u v = sym (one u v ∙ rw t)

-- The claim, the steps, the model and the end as bytes, both ways: the records after a position have their forms exactly when the bytes there are written from values
-- in range.
use Prim.Native.Nat.{ℕ, ◌+◌, ◌*◌, ◌≤◌}
use native.Mathlib.Omega.{arith}
use mathlib.Core.Path.{◌≡◌, refl, sym, ◌∙◌, ap, ap₂, subst}
use mathlib.Core.Bool.{Bool, true, ◌&&◌}
use mathlib.Core.Option.{Option, none, some}
use mathlib.Core.List.{List, [], ◌∷◌, ◌++◌, append_assoc, append-nil, flat_map}
use lib.ListN.{length, drop, drop_of_length-le}
use lib.Dec.{leb, eqb}
use lib.IntN.{ℤ, nat_abs}
use borrow.Author.Tests.{leb-true, eqb-true, le-leb, eq-eqb}
use Rattle.lists.specs.Lists.{All}
use Rattle.lists.proofs.Lists.{all_true→, →all_true}
use Rattle.lists.proofs.Tests.{and_both}
use Rattle.calculus.specs.Limits.{column_limit, value_limit}
use Rattle.calculus.specs.Facts.{Question, column_count}
use Rattle.calculus.specs.Steps.{Step}
use Rattle.format.specs.Fields.{i32s, all_within, IsU16}
use Rattle.format.specs.Records.{size, kind, next, whole, records, need}
use Rattle.format.specs.Question.{Progress, head_read}
use Rattle.format.specs.StepForms.{child_in_range}
use Rattle.format.specs.Reading.{model_at, step_with_child, claim_at, claim_fault}
use Rattle.format.specs.Answer.{integer_bytes}
use Rattle.format.specs.Written.{u16_bytes, claim_record, step_record, step_records, model_record, end_record, with_child_zero, OperandsInRange, ModelInRange, TakenInRange}
use Rattle.format.specs.Demands.{Bytes}
use Rattle.format.proofs.Records.{records_more}
use Rattle.format.proofs.Faults.{none_applies, passed}
use Rattle.format.proofs.Fields.{length_i32s}
use Rattle.format.proofs.Encoded.{length_integers, length_shorts}
use Rattle.format.proofs.BytesRead.{all_held, i32s_back, record_read}
use Rattle.format.proofs.BytesWritten.{i32s_written, body_written}
use Rattle.format.proofs.Behind.{EndAt, ModelAt, StepAt, Formed, first_formed}
use Rattle.format.proofs.ChildFields.{→child, child_short}
use Rattle.format.proofs.StepsRead.{short_at, step_read}
use Rattle.format.proofs.StepsWritten.{one_at, step_written}

-- the record at a position is there, so it is the first from there on
first_whole : (b : List ℕ) (at : ℕ) → whole b at ≡ true → records b at ≡ at ∷ records b (next b at)
first_whole b at w = records_more b at (omega (arith, leb-true (next b at) (length b) w))

-- ---- the claim

pub record ClaimRead (b : List ℕ) (s : Progress) (at k : ℕ) (rest : List ℕ) : Type 0 where
  pub fine : claim_fault b s at ≡ 0
  pub claims : claim_at b at ≡ k
  pub rest_stands : drop (next b at) b ≡ rest

module _ (b : List ℕ) (s : Progress) (at : ℕ) where
  -- the last test: "1 for no solution, 2 for strings"
  abbrev claim_range : Bool
  claim_range = leb 1 (claim_at b at) && leb (claim_at b at) 2

  pub claim_read : (k : ℕ) (rest : List ℕ) → head_read s ≡ true → 1 ≤ k → k ≤ 2 → drop at b ≡ claim_record k ++ rest → ClaimRead b s at k rest
  claim_read k rest headed least most e =
      let body : List ℕ = u16_bytes (k ∷ []) in
      let r = record_read b at 5 body rest (omega arith) (omega (arith, length_shorts (k ∷ []))) e in
      let claims : claim_at b at ≡ k = short_at b (at + 6) (k ∷ []) rest 0 (at + 6) (omega arith, tt) r.body_stands (omega arith) (omega arith) in
      record {
        fine =
            passed 3 (whole b at) (need 4 (head_read s && eqb (kind b at) 5) (need 5 (eqb (size b at) 2) (need 6 claim_range 0))) r.is_whole
            ∙ passed 4 (head_read s && eqb (kind b at) 5) (need 5 (eqb (size b at) 2) (need 6 claim_range 0))
            (ap₂ ◌&&◌ headed (eq-eqb (kind b at) 5 r.is_kind))
            ∙ passed 5 (eqb (size b at) 2) (need 6 claim_range 0) (eq-eqb (size b at) 2 (r.is_size ∙ length_shorts (k ∷ [])))
            ∙ passed 6 claim_range 0
            (ap₂ ◌&&◌ (ap (leb 1) claims ∙ le-leb 1 k least) (ap (λ v. leb v 2) claims ∙ le-leb k 2 most));
        claims = claims;
        rest_stands = r.rest_stands;
      }

  pub record ClaimWritten : Type 0 where
    pub headed : head_read s ≡ true
    pub at_least : 1 ≤ claim_at b at
    pub at_most : claim_at b at ≤ 2
    pub stands : drop at b ≡ claim_record (claim_at b at) ++ drop (next b at) b

  pub claim_written : Bytes b → claim_fault b s at ≡ 0 → ClaimWritten
  claim_written bytes e =
      let a3 = none_applies 2 (whole b at) (need 4 (head_read s && eqb (kind b at) 5) (need 5 (eqb (size b at) 2) (need 6 claim_range 0))) e in
      let a4 = none_applies 3 (head_read s && eqb (kind b at) 5) (need 5 (eqb (size b at) 2) (need 6 claim_range 0)) a3.1 in
      let a5 = none_applies 4 (eqb (size b at) 2) (need 6 claim_range 0) a4.1 in
      let (headed, fifth) = and_both (head_read s) (eqb (kind b at) 5) a4.0 in
      let (least, most) = and_both (leb 1 (claim_at b at)) (leb (claim_at b at) 2) (none_applies 5 claim_range 0 a5.1).0 in
      let two : size b at ≡ 2 = eqb-true (size b at) 2 a5.0 in
      let there : next b at ≤ length b = leb-true (next b at) (length b) a3.0 in
      record {
        headed = headed;
        at_least = leb-true 1 (claim_at b at) least;
        at_most = leb-true (claim_at b at) 2 most;
        stands =
            body_written b bytes at 5 (u16_bytes (claim_at b at ∷ [])) (drop (next b at) b) (omega arith) (eqb-true (kind b at) 5 fifth)
            (two ∙ sym (length_shorts (claim_at b at ∷ [])))
            (one_at b bytes (at + 6) (omega arith) ∙ ap (λ n. u16_bytes (claim_at b at ∷ []) ++ drop (at + 6 + n) b) (sym two));
      }

-- ---- the end

pub end_read : (b : List ℕ) (at : ℕ) → drop at b ≡ end_record → EndAt b at
end_read b at e =
    let r = record_read b at 8 [] [] (omega arith) (omega arith) (e ∙ sym (append-nil end_record)) in
    record {
      is_whole = r.is_whole;
      is_end = r.is_kind;
      last = eq-eqb (next b at) (length b) (omega (arith, r.ends));
      empty = eq-eqb (size b at) 0 r.is_size;
    }

pub end_written : (b : List ℕ) (at : ℕ) → Bytes b → EndAt b at → drop at b ≡ end_record
end_written b at bytes h =
    let last : next b at ≡ length b = eqb-true (next b at) (length b) h.last in
    let empty : size b at ≡ 0 = eqb-true (size b at) 0 h.empty in
    let nothing : drop (at + 6) b ≡ [] = drop_of_length-le b {i = at + 6} (omega (arith, last, empty)) in
    body_written b bytes at 8 [] [] (omega (arith, last)) h.is_end empty nothing ∙ append-nil end_record

-- ---- the model

module _ (b : List ℕ) (u : Question) (few : column_count u ≤ column_limit) (at : ℕ) where
  pub model_read : (m : List ℤ) (rest : List ℕ) → ModelInRange u m → drop at b ≡ model_record m ++ rest → ModelAt b u at m × (drop (next b at) b ≡ rest)
  unfolding all_within
  model_read m rest h e =
      let r = record_read b at 7 (integer_bytes m) rest (omega arith) (omega (arith, length_integers m, h.size)) e in
      let read : model_at b u (at + 6) ≡ m =
      ap (i32s b (at + 6)) (sym h.size) ∙ i32s_back b (at + 6) m rest (all_held value_limit m (omega arith) h.numbers) r.body_stands in (
        record {
          is_whole = r.is_whole;
          is_model = r.is_kind;
          fits = eq-eqb (size b at) (4 * column_count u) (r.is_size ∙ length_integers m ∙ ap (λ n. 4 * n) h.size);
          values = ap (all_within value_limit) read ∙ →all_true _ m (λ z. le-leb (nat_abs z) value_limit) h.numbers;
          holds = sym read;
        },
        r.rest_stands,
      )

  pub model_written : (m : List ℤ) → Bytes b → ModelAt b u at m → ModelInRange u m × (drop at b ≡ model_record m ++ drop (next b at) b)
  unfolding all_within
  model_written m bytes h =
      let c : ℕ = column_count u in
      let count : length m ≡ c = ap length h.holds ∙ length_i32s b (at + 6) c in
      let sized : size b at ≡ 4 * c = eqb-true (size b at) (4 * c) h.fits in
      let there : next b at ≤ length b = leb-true (next b at) (length b) h.is_whole in (
        record {
          size = count;
          numbers = all_true→ _ m (λ z. leb-true (nat_abs z) value_limit) (ap (all_within value_limit) h.holds ∙ h.values);
        },
        body_written b bytes at 7 (integer_bytes m) (drop (next b at) b) (omega arith) h.is_model
            (sized ∙ ap (λ n. 4 * n) (sym count) ∙ sym (length_integers m))
            (i32s_written b bytes (at + 6) c (omega (arith, sized))
            ∙ ap₂ (λ m n. integer_bytes m ++ drop (at + 6 + n) b) (sym h.holds) (sym sized)),
      )

-- ---- steps, the model where there is one, and the end

-- after the steps
abbrev pub ending_bytes : Option (List ℤ) → List ℕ
ending_bytes none = end_record
ending_bytes (some m) = model_record m ++ end_record

abbrev pub EndingInRange : Question → Option (List ℤ) → Type 0
EndingInRange u none = Unit {0}
EndingInRange u (some m) = ModelInRange u m

-- a step that a u16 holds the child field of, which passes a test
pub record Fine (u : Question) (ok : Step → ℕ → Bool) (t : Step × ℕ) : Type 0 where
  pub operands : OperandsInRange u t.0
  pub short : IsU16 t.1
  pub passes : ok t.0 t.1 ≡ true

-- a step in range is, under claim 1 without a child and under claim 2 with one in range
module _ (u : Question) where
  pub fine_split : (st : Step) → OperandsInRange u st → Fine u (λ st c. eqb c 0) (st, 0)
  fine_split st h = record { operands = h; short = omega arith; passes = refl }

  pub fine_splits : (sts : List Step) → All (OperandsInRange u) sts → All (Fine u (λ st c. eqb c 0)) (with_child_zero sts)
  fine_splits [] h = tt
  fine_splits (st ∷ sts) (h, hs) = (fine_split st h, fine_splits sts hs)

  pub fine_taken : (t : Step × ℕ) → TakenInRange u t → Fine u (child_in_range u.n) t
  fine_taken t (h, c) = record { operands = h; short = child_short u t (h, c); passes = →child u t c }

module _ (b : List ℕ) (u : Question) (few : column_count u ≤ column_limit) (ok : Step → ℕ → Bool) where
  pub fine_read : (at : ℕ) (t : Step × ℕ) (rest : List ℕ) → Fine u ok t → drop at b ≡ step_record t ++ rest → StepAt b u ok at t × (drop (next b at) b ≡ rest)
  fine_read at t rest f e =
      let r = step_read b u at t rest few f.operands f.short e in (
        record {
          is_whole = r.is_whole;
          is_step = r.is_step;
          fits = r.fits;
          operands = r.operands;
          child_ok_law = ap (λ (t : Step × ℕ). ok t.0 t.1) r.holds ∙ f.passes;
          holds = sym r.holds;
        },
        r.rest_stands,
      )

  end_formed : (at : ℕ) → drop at b ≡ end_record → Formed b u ok (records b at) [] none
  unfolding Formed
  end_formed at e = let h = end_read b at e in subst (λ l. Formed b u ok l [] none) (sym (first_whole b at h.is_whole)) h

  pub →formed : (ts : List (Step × ℕ)) (o : Option (List ℤ)) (at : ℕ) → All (Fine u ok) ts → EndingInRange u o → drop at b ≡ step_records ts ++ ending_bytes o
      → Formed b u ok (records b at) ts o
  unfolding Formed step_records flat_map
  →formed [] none at f m e = end_formed at e
  →formed [] (some m) at f g e =
      let (h, rest) = model_read b u few at m end_record g e in
      subst (λ l. Formed b u ok l [] (some m)) (sym (first_whole b at h.is_whole)) (h, end_formed (next b at) rest)
  →formed (t ∷ ts) o at (f, fs) g e =
      let (h, rest) = fine_read at t (step_records ts ++ ending_bytes o) f (e ∙ append_assoc (step_record t) (step_records ts) (ending_bytes o)) in
      subst (λ l. Formed b u ok l (t ∷ ts) o) (sym (first_whole b at h.is_whole)) (h, →formed ts o (next b at) fs g rest)

  -- the bytes at a position are those of steps, of the model where there is one, and of the end
  pub record Standing (ts : List (Step × ℕ)) (o : Option (List ℤ)) (at : ℕ) : Type 0 where
    pub steps : All (λ t. OperandsInRange u t.0 × (ok t.0 t.1 ≡ true)) ts
    pub ending : EndingInRange u o
    pub bytes : drop at b ≡ step_records ts ++ ending_bytes o

  formed_end : (at : ℕ) → Bytes b → Formed b u ok (records b at) [] none → drop at b ≡ end_record
  unfolding Formed
  formed_end at bytes f = let (_, h) = first_formed b u ok [] none at f in end_written b at bytes h

  pub formed→ : (ts : List (Step × ℕ)) (o : Option (List ℤ)) (at : ℕ) → Bytes b → Formed b u ok (records b at) ts o → Standing ts o at
  unfolding Formed step_records flat_map
  formed→ [] none at bytes f = record { steps = tt; ending = tt; bytes = formed_end at bytes f }
  formed→ [] (some m) at bytes f =
      let (_, (h, hs)) = first_formed b u ok [] (some m) at f in
      let (range, stands) = model_written b u few at m bytes h in
      record { steps = tt; ending = range; bytes = stands ∙ ap (λ l. model_record m ++ l) (formed_end (next b at) bytes hs) }
  formed→ (t ∷ ts) o at bytes f =
      let (_, (h, hs)) = first_formed b u ok (t ∷ ts) o at f in
      let (range, stands) = step_written b bytes u few at h.is_whole h.is_step h.fits h.operands in
      let later = formed→ ts o (next b at) bytes hs in
      let same : step_with_child b at ≡ t = sym h.holds in
      record {
        steps = ((subst (λ (t : Step × ℕ). OperandsInRange u t.0) same range, subst (λ (t : Step × ℕ). ok t.0 t.1 ≡ true) same h.child_ok_law), later.steps);
        ending = later.ending;
        bytes =
            stands ∙ ap₂ (λ (t : Step × ℕ) (l : List ℕ). step_record t ++ l) same later.bytes
            ∙ sym (append_assoc (step_record t) (step_records ts) (ending_bytes o));
      }

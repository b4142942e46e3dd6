-- The three laws of an instruction's words.
use Rattle.std.proofs.Common.{◌≡◌, ℕ, ◌+◌, ◌/◌, ◌≤◌, Bool, true, false, cond, not, ◌||◌, eqb, ltb, List, [], ◌∷◌, ◌++◌, length, get_or, take, drop, is_some, Some, None, Ok, Err, Option, Result, unwrap_or, sym, refl, ap, ◌∙◌, subst, arith, length-append}
use lib.Seq.{take-append-le}
use Rattle.std.proofs.lemmas.List.{drop-drop}
use Rattle.std.proofs.lemmas.Bool.{or_parts, ltb-false, eqb-true, not-false}
use Rattle.std.proofs.lemmas.Bool.Decides.{nat_tests}
use Rattle.std.specs.Option.{ok_or}
use Rattle.records.specs.declared.refusals.Error.{Error}
use Rattle.records.specs.declared.refusals.Error.TheVariants.{IncompleteData, InvalidOperandCount, UnsupportedInstruction, UnsupportedOperand, InvalidOperand}
use Rattle.records.specs.declared.refusals.Fault.{Fault}
use Rattle.records.specs.declared.refusals.Layer.TheVariants.{Words, Rules}
use Rattle.records.specs.Refusals.{fault_at, refusal_of}
use Rattle.words.specs.declared.opcodes.Opcode.{Opcode}
use Rattle.words.specs.declared.opcodes.Opcode.TheVariants.{SampledImage}
use Rattle.words.specs.declared.operands.ImageOperands.{ImageOperands}
use Rattle.words.specs.declared.instructions.Instruction.{Instruction}
use Rattle.words.specs.Opcodes.{row_of, place}
use Rattle.words.specs.Masks.{has, supports, allows, words_needed, words_below}
use Rattle.words.specs.Operands.{id_at, grad_at, operand, operands_of}
use Rattle.records.specs.Refusals.{refuse, check, and_then}
use Rattle.words.specs.Instructions.{count_in, opcode_in, too_few_words, wrong_count, first_word, mask_checks, image_operands, described, instruction}
use Rattle.words.specs.Laws.{PastTheCount, OperandsInOrder, FaultsInOrder, Spelled, counted, mask_of, after_mask, first_fault}
use Rattle.words.proofs.Spells.{spells}

-- what an instruction says, from its first word and the words that its count says
abbrev read : ℕ → List ℕ → Result Instruction Error
read first cut =
    and_then (ok_or (opcode_in first) UnsupportedInstruction) (λ op.
    and_then (check (wrong_count (row_of op) (count_in first)) InvalidOperandCount) (λ _.
    and_then (image_operands op (drop (place op) cut)) (λ operands.
    Ok (described op cut operands))))

whole : (ws : List ℕ) → too_few_words ws ≡ false → instruction ws ≡ read (get_or ws 0 0) (counted ws)
whole ws e = ap (λ b. and_then (refuse b (IncompleteData (length ws)) (Ok (get_or ws 0 0))) (λ first. read first (take (count_in first) ws))) e

first_same : (ws more : List ℕ) → eqb (length ws) 0 ≡ false → get_or (ws ++ more) 0 0 ≡ get_or ws 0 0
first_same [] more e = absurd (let z : ◌≡◌ {A = ℕ} 0 1 = cc in omega arith)
first_same (w ∷ ws) more e = refl

still_whole : (n k c : ℕ) → (eqb n 0 || ltb n c) ≡ false → (eqb (n + k) 0 || ltb (n + k) c) ≡ false
still_whole n k c e = grind (arith, nat_tests)

pub past_the_count : PastTheCount
past_the_count ws more e =
    let count = count_in (get_or ws 0 0) in
    let parts = or_parts (eqb (length ws) 0) (ltb (length ws) count) e in
    let first = first_same ws more parts.0 in
    let fits : count ≤ length ws = ltb-false (length ws) count parts.1 in
    let long = length-append ws more in
    let few : too_few_words (ws ++ more) ≡ false =
    ap (λ w. eqb (length (ws ++ more)) 0 || ltb (length (ws ++ more)) (w / 65536)) first
    ∙ ap (λ n. eqb n 0 || ltb n count) long ∙ still_whole (length ws) (length more) count e in
    let cut : counted (ws ++ more) ≡ counted ws =
    ap (λ w. take (w / 65536) (ws ++ more)) first ∙ take-append-le count ws more fits in
    whole (ws ++ more) few ∙ ap (λ w. read w (counted (ws ++ more))) first ∙ ap (λ c. read (get_or ws 0 0) c) cut ∙ sym (whole ws e)

-- what was accepted passed every check
and_then_holds : {X Y : Type 0} (r : Result X Error) (f : X → Result Y Error) (y : Y) → and_then r f ≡ Ok y → (x : X) × (r ≡ Ok x) × (f x ≡ Ok y)
and_then_holds (Ok x) f y p = (x, refl, p)
and_then_holds (Err e) f y p = absurd (let z : ◌≡◌ {A = ℕ} 0 1 = cc in omega arith)

passed : {X : Type 0} (b : Bool) (e : Error) (x y : X) → refuse b e (Ok x) ≡ Ok y → (b ≡ false) × (x ≡ y)
passed true e x y p = absurd (let z : ◌≡◌ {A = ℕ} 0 1 = cc in omega arith)
passed false e x y p = (refl, cc)

is_there : {X : Type 0} (read : ℕ → X) (m j : ℕ) → is_some (operand read m j) ≡ has m j
is_there read m j = at (has m j)
  where
    at : (b : Bool) → is_some (cond b (Some (read (words_below m j))) None) ≡ b
    at true = refl
    at false = refl

all_spelled : (m : ℕ) (ws : List ℕ) (first : ℕ) → length ws ≡ words_needed m → Spelled m first ws (operands_of m ws first)
all_spelled m ws first e = record {
  mask_is = refl;
  bias_is = is_there (id_at ws first) m 0;
  lod_is = is_there (id_at ws first) m 1;
  grad_is = is_there (grad_at ws first) m 2;
  offset_is = is_there (id_at ws first) m 3;
  sample_is = is_there (id_at ws first) m 6;
  available_is = is_there (id_at ws first) m 8;
  visible_is = is_there (id_at ws first) m 9;
  in_order = spells m ws first e;
}

words_fit : (op : Opcode) (m : ℕ) (os : List ℕ) (u : Unit {0}) → mask_checks op m os ≡ Ok u → length os ≡ words_needed m
words_fit op m os u e =
    let a = and_then_holds (check (not (supports (row_of op).rule m)) _) _ u e in
    let b = and_then_holds (check (not (eqb (length os) (words_needed m))) _) _ u a.2 in
    eqb-true _ _ (not-false _ (passed _ _ _ _ b.1).0)

in_order : (op : Opcode) (rest : List ℕ) (o : ImageOperands) → image_operands op rest ≡ Ok o → Spelled (get_or rest 0 0) (place op + 1) (drop 1 rest) o
in_order op rest o e =
    let a = and_then_holds (mask_checks op (get_or rest 0 0) (drop 1 rest)) _ o e in
    let same : operands_of (get_or rest 0 0) (drop 1 rest) (place op + 1) ≡ o = (passed false InvalidOperandCount _ _ a.2).1 in
    subst (Spelled (get_or rest 0 0) (place op + 1) (drop 1 rest)) same
    (all_spelled (get_or rest 0 0) (drop 1 rest) (place op + 1) (words_fit op _ _ _ a.1))

described_so : (op : Opcode) (ws : List ℕ) (o : ImageOperands) (i : Instruction) → image_operands op (drop (place op) (counted ws)) ≡ Ok o
    → ◌≡◌ {A = Result Instruction Error} (Ok (described op (counted ws) o)) (Ok i)
    → Spelled (mask_of i.opcode ws) (place i.opcode + 1) (after_mask i.opcode ws) i.operands
described_so op ws o i e p =
    let same : described op (counted ws) o ≡ i = cc in
    subst (λ j. Spelled (mask_of j.opcode ws) (place j.opcode + 1) (after_mask j.opcode ws) j.operands) same (
    subst (λ rest. Spelled (mask_of op ws) (place op + 1) rest o) (drop-drop 1 (place op) (counted ws))
    (in_order op (drop (place op) (counted ws)) o e))

pub operands_in_order : OperandsInOrder
operands_in_order ws i e =
    let a = and_then_holds (first_word ws) _ i e in
    let first = (passed (too_few_words ws) _ _ _ a.1).1 in
    let again = subst (λ w. read w (take (count_in w) ws) ≡ Ok i) (sym first) a.2 in
    let b = and_then_holds (ok_or (opcode_in (get_or ws 0 0)) UnsupportedInstruction) _ i again in
    let c = and_then_holds (check (wrong_count (row_of b.0) (count_in (get_or ws 0 0))) InvalidOperandCount) _ i b.2 in
    let d = and_then_holds (image_operands b.0 (drop (place b.0) (counted ws))) _ i c.2 in
    described_so b.0 ws d.0 i d.1 d.2

-- the checks from the count on, whatever they test
abbrev later : Bool → Bool → Bool → Bool → ℕ → List (Bool × Fault)
later count bits words level p =
    (count, fault_at 2 Words 0) ∷ (bits, fault_at 4 Words p) ∷ (words, fault_at 2 Words 0) ∷ (level, fault_at 7 Rules p) ∷ []

later_fault : (count bits words level : Bool) (p : ℕ) (o : ImageOperands) (f : ImageOperands → Instruction)
    → refusal_of (and_then (check count InvalidOperandCount) (λ _.
    and_then (and_then (and_then (check bits (UnsupportedOperand p)) (λ _. and_then (check words InvalidOperandCount) (λ _. check level (InvalidOperand p)))) (λ _. Ok o)) (λ operands.
    Ok (f operands))))
    ≡ first_fault (later count bits words level p)
later_fault true bits words level p o f = refl
later_fault false true words level p o f = refl
later_fault false false true level p o f = refl
later_fault false false false true p o f = refl
later_fault false false false false p o f = refl

-- what the words say, were the opcode another
abbrev read_as : List ℕ → Option Opcode → Result Instruction Error
read_as ws o =
    and_then (ok_or o UnsupportedInstruction) (λ op.
    and_then (check (wrong_count (row_of op) (count_in (get_or ws 0 0))) InvalidOperandCount) (λ _.
    and_then (image_operands op (drop (place op) (counted ws))) (λ operands.
    Ok (described op (counted ws) operands))))

checks_as : List ℕ → Option Opcode → List (Bool × Fault)
checks_as ws o =
    let op = unwrap_or o SampledImage in
    (not (is_some o), fault_at 3 Words 0) ∷ later
    (wrong_count (row_of op) (count_in (get_or ws 0 0)))
    (not (supports (row_of op).rule (mask_of op ws)))
    (not (eqb (length (drop 1 (drop (place op) (counted ws)))) (words_needed (mask_of op ws))))
    (not (allows (row_of op).rule (mask_of op ws)))
    (place op)

read_fault : (ws : List ℕ) (o : Option Opcode) → refusal_of (read_as ws o) ≡ first_fault (checks_as ws o)
unfolding checks_as
read_fault ws None = refl
read_fault ws (Some op) =
    later_fault
    (wrong_count (row_of op) (count_in (get_or ws 0 0)))
    (not (supports (row_of op).rule (mask_of op ws)))
    (not (eqb (length (drop 1 (drop (place op) (counted ws)))) (words_needed (mask_of op ws))))
    (not (allows (row_of op).rule (mask_of op ws)))
    (place op)
    (operands_of (mask_of op ws) (drop 1 (drop (place op) (counted ws))) (place op + 1))
    (described op (counted ws))

pub faults_in_order : FaultsInOrder
unfolding checks_as
faults_in_order ws = at (too_few_words ws)
  where
    at : (few : Bool)
        → refusal_of (and_then (refuse few (IncompleteData (length ws)) (Ok (get_or ws 0 0))) (λ first. read first (take (count_in first) ws)))
        ≡ first_fault ((few, fault_at 1 Words (length ws)) ∷ checks_as ws (opcode_in (get_or ws 0 0)))
    at true = refl
    at false = read_fault ws (opcode_in (get_or ws 0 0))

-- The two passes, one expression at a time.
use Rattle.std.proofs.Common.{◌≡◌, ℕ, suc, ◌+◌, ◌<◌, ◌≤◌, List, [], ◌∷◌, ◌++◌, length, get_or, take, drop, set, is_some, Some, None, Ok, Err, Option, sym, refl, ap, ◌∙◌, arith, take-append-drop, drop_of_length-le, drop-cons}
use Rattle.std.proofs.lemmas.Bool.{false≢true}
use Rattle.std.proofs.lemmas.List.{take_more_set, drop-drop, drop-set-lt, length-set}
use Rattle.records.specs.declared.expressions.Expression.{Expression}
use Rattle.units.specs.declared.values.Value.{Value}
use Rattle.run.specs.declared.passes.Halt.{Halt}
use Rattle.run.specs.Worth.{Values}
use Rattle.run.specs.Runs.{or_else, or_halt, first_halt, worked, value_at}

more : (i : ℕ) → suc i ≡ i + 1
more i = omega arith

-- the record at i, and those after it
first_at : {X : Type 0} (f : ℕ → X → Option Halt) (xs : List X) (i : ℕ) (d : X) → i < length xs
    → first_halt f i (drop i xs) ≡ or_else (f i (get_or xs i d)) (first_halt f (i + 1) (drop (i + 1) xs))
unfolding first_halt
first_at f xs i d l = ap (first_halt f i) (drop-cons xs i d l) ∙ ap (λ k. or_else (f i (get_or xs i d)) (first_halt f k (drop k xs))) (more i)

-- A check at i, and one of the whole list: by what is left of it, which decides the whole.

pub none_of : (o : Option Halt) → Ok tt ≡ or_halt o → o ≡ None
none_of None is = refl
none_of (Some h) is = cc

pub some_of : (o : Option Halt) (h : Halt) → Err h ≡ or_halt o → o ≡ Some h
some_of None h is = cc
some_of (Some k) h is = cc

pub first_on : {X : Type 0} (f : ℕ → X → Option Halt) (xs : List X) (i : ℕ) (d : X) (end : Option Halt) → i < length xs → Ok tt ≡ or_halt (f i (get_or xs i d))
    → first_halt f i (drop i xs) ≡ end → first_halt f (i + 1) (drop (i + 1) xs) ≡ end
first_on f xs i d end l none is = sym (first_at f xs i d l ∙ ap (λ o. or_else o (first_halt f (i + 1) (drop (i + 1) xs))) (none_of _ none)) ∙ is

pub first_here : {X : Type 0} (f : ℕ → X → Option Halt) (xs : List X) (i : ℕ) (d : X) (h : Halt) (end : Option Halt) → i < length xs
    → Err h ≡ or_halt (f i (get_or xs i d)) → first_halt f i (drop i xs) ≡ end → Err h ≡ or_halt end
first_here f xs i d h end l some is =
    ap or_halt (sym (first_at f xs i d l ∙ ap (λ o. or_else o (first_halt f (i + 1) (drop (i + 1) xs))) (some_of _ h some)) ∙ is)

pub first_none : {X : Type 0} (f : ℕ → X → Option Halt) (xs : List X) (i : ℕ) (end : Option Halt) → length xs ≤ i
    → first_halt f i (drop i xs) ≡ end → Ok tt ≡ or_halt end
unfolding first_halt
first_none f xs i end l is = ap or_halt (sym (ap (first_halt f i) (drop_of_length-le xs l)) ∙ is)

-- where neither of two halts a run
pub first_none_of : (o m : Option Halt) → or_else o m ≡ None → o ≡ None
first_none_of None m is = refl
first_none_of (Some h) m is = is

pub rest_none_of : (o m : Option Halt) → or_else o m ≡ None → m ≡ None
rest_none_of None m is = is
rest_none_of (Some h) m is = absurd (false≢true (ap is_some (sym is)))

-- Where the values of the first i stand in front of a list, and the rest of it is as it was.
pub record Working (w : Values → Expression → Value) (es : List Expression) (old vs : List Value) (i : ℕ) : Type 0 where
  pub long : length vs ≡ length old
  pub rest : drop i vs ≡ drop i old
  pub whole : worked w (take i vs) (drop i es) ≡ worked w [] es

pub working_on : (w : Values → Expression → Value) (es : List Expression) (old vs : List Value) (i : ℕ) (d : Expression) (v : Value) → i < length es → i < length vs
    → v ≡ w (value_at (take i vs)) (get_or es i d) → Working w es old vs i → Working w es old (set vs i v) (i + 1)
unfolding worked
working_on w es old vs i d v l m is h = record {
  long = length-set vs i v ∙ h.long;
  rest = drop-set-lt (i + 1) vs i v (omega arith) ∙ sym (drop-drop 1 i vs) ∙ ap (drop 1) h.rest ∙ drop-drop 1 i old;
  whole =
      ap (λ t. worked w t (drop (i + 1) es)) (take_more_set vs i v m ∙ ap (λ x. take i vs ++ x ∷ []) is)
      ∙ ap (λ k. worked w (take i vs ++ w (value_at (take i vs)) (get_or es i d) ∷ []) (drop k es)) (sym (more i))
      ∙ sym (ap (worked w (take i vs)) (drop-cons es i d l))
      ∙ h.whole;
}

pub working_all : (w : Values → Expression → Value) (es : List Expression) (old vs : List Value) (i : ℕ) → i ≡ length es → Working w es old vs i
    → vs ≡ worked w [] es ++ drop (length es) old
unfolding worked
working_all w es old vs i n h =
    sym (take-append-drop i vs)
    ∙ ap (λ r. take i vs ++ r) h.rest
    ∙ ap (λ t. t ++ drop i old) (sym (ap (worked w (take i vs)) (drop_of_length-le es (omega arith))) ∙ h.whole)
    ∙ ap (λ k. worked w [] es ++ drop k old) n

-- Stores, one statement at a time.
use Rattle.std.proofs.Common.{◌≡◌, ℕ, suc, ◌+◌, ◌<◌, ◌≤◌, Bool, true, false, cond, List, [], ◌∷◌, ◌++◌, length, get_or, take, drop, set, Some, None, Option, sym, refl, ap, ◌∙◌, append_assoc, append-nil, arith, take-append-drop, drop_of_length-le, drop-cons}
use Rattle.std.specs.List.{count_by}
use Rattle.std.proofs.lemmas.List.{take_more_set, drop-drop, drop-set-lt, length-set}
use Rattle.std.proofs.lemmas.List.Recursion.{is_count_by}
use Rattle.records.specs.declared.statements.Statement.{Statement}
use Rattle.records.specs.declared.statements.Statement.TheVariants.{Emit, ImageStore}
use Rattle.units.specs.declared.requests.Request.{Request}
use Rattle.run.specs.Asked.{with_request}
use Rattle.run.specs.Worth.{Values}
use Rattle.run.specs.Stores.{store_request_of, stores, store_count}

-- how many there are, counted by a test

abbrev pub is_store : Statement → Bool
is_store (Emit r) = false
is_store (ImageStore i c l v) = true

pub stores_counted : (ss : List Statement) → store_count ss ≡ count_by is_store ss
unfolding store_count
stores_counted ss = is_count_by store_count is_store refl turn ss
  where
    turn : (s : Statement) (ss : List Statement) → store_count (s ∷ ss) ≡ cond (is_store s) (1 + store_count ss) (store_count ss)
    turn (Emit r) ss = refl
    turn (ImageStore i c l v) ss = omega arith

-- the stores of one statement and of those after it
pub stores_turn : (at : Values) (s : Statement) (ss : List Statement) → stores at (s ∷ ss) ≡ with_request (store_request_of at s) (stores at ss)
unfolding stores
stores_turn at (Emit r) ss = refl
stores_turn at (ImageStore i c l v) ss = refl

count_turn : (at : Values) (s : Statement) (ss : List Statement) → store_count (s ∷ ss) ≡ length (with_request (store_request_of at s) []) + store_count ss
unfolding store_count
count_turn at (Emit r) ss = omega arith
count_turn at (ImageStore i c l v) ss = omega arith

-- the statement at j, and those after it
from_here : (ss : List Statement) (j : ℕ) (d : Statement) → j < length ss → drop j ss ≡ get_or ss j d ∷ drop (j + 1) ss
from_here ss j d l =
    let on : suc j ≡ j + 1 = omega arith in
    drop-cons ss j d l ∙ ap (λ k. get_or ss j d ∷ drop k ss) on

-- Where the requests of the stores before statement j stand in front of a list, and the rest of it is as it was.
pub record Listing (at : Values) (ss : List Statement) (old rs : List Request) (j k : ℕ) : Type 0 where
  pub counted : k + store_count (drop j ss) ≡ store_count ss
  pub few : k ≤ j
  pub long : length rs ≡ length old
  pub rest : drop k rs ≡ drop k old
  pub whole : take k rs ++ stores at (drop j ss) ≡ stores at ss

module _ (at : Values) (ss : List Statement) (old rs : List Request) (j k : ℕ) (d : Statement) (m : j < length ss) (h : Listing at ss old rs j k) where
  counted_on : (o : Option Request) → o ≡ store_request_of at (get_or ss j d) → k + (length (with_request o []) + store_count (drop (j + 1) ss)) ≡ store_count ss
  counted_on o is =
      ap (λ o. k + (length (with_request o []) + store_count (drop (j + 1) ss))) is
      ∙ ap (λ n. k + n) (sym (ap store_count (from_here ss j d m) ∙ count_turn at (get_or ss j d) (drop (j + 1) ss)))
      ∙ h.counted

  whole_on : (o : Option Request) → o ≡ store_request_of at (get_or ss j d) → take k rs ++ with_request o (stores at (drop (j + 1) ss)) ≡ stores at ss
  whole_on o is =
      ap (λ o. take k rs ++ with_request o (stores at (drop (j + 1) ss))) is
      ∙ ap (λ l. take k rs ++ l) (sym (ap (stores at) (from_here ss j d m) ∙ stores_turn at (get_or ss j d) (drop (j + 1) ss)))
      ∙ h.whole

  pub listing_none : None ≡ store_request_of at (get_or ss j d) → Listing at ss old rs (j + 1) k
  listing_none is =
      let counted = counted_on None is in
      let few = h.few in
      record { counted = omega arith; few = omega arith; long = h.long; rest = h.rest; whole = whole_on None is }

  pub listing_room : (q : Request) → Some q ≡ store_request_of at (get_or ss j d) → store_count ss ≤ length old → k < length rs
  listing_room q is fits =
      let counted = counted_on (Some q) is in
      let long = h.long in
      omega arith

  pub listing_some : (q : Request) → Some q ≡ store_request_of at (get_or ss j d) → store_count ss ≤ length old → Listing at ss old (set rs k q) (j + 1) (k + 1)
  listing_some q is fits =
      let counted = counted_on (Some q) is in
      let few = h.few in
      let room = listing_room q is fits in
      record {
        counted = omega arith;
        few = omega arith;
        long = length-set rs k q ∙ h.long;
        rest = drop-set-lt (k + 1) rs k q (omega arith) ∙ sym (drop-drop 1 k rs) ∙ ap (drop 1) h.rest ∙ drop-drop 1 k old;
        whole =
            ap (λ x. x ++ stores at (drop (j + 1) ss)) (take_more_set rs k q room)
            ∙ append_assoc (take k rs) (q ∷ []) (stores at (drop (j + 1) ss))
            ∙ whole_on (Some q) is;
      }

pub listing_all : (at : Values) (ss : List Statement) (old rs : List Request) (j k : ℕ) → length ss ≤ j → Listing at ss old rs j k
    → rs ≡ stores at ss ++ drop (store_count ss) old
unfolding stores store_count
listing_all at ss old rs j k m h =
    let none : store_count (drop j ss) ≡ 0 = ap store_count (drop_of_length-le ss m) in
    let counted : k + store_count (drop j ss) ≡ store_count ss = h.counted in
    let all : k ≡ store_count ss = omega arith in
    sym (take-append-drop k rs)
    ∙ ap (λ r. take k rs ++ r) h.rest
    ∙ ap (λ x. x ++ drop k old) (sym (append-nil (take k rs)) ∙ ap (λ x. take k rs ++ stores at x) (sym (drop_of_length-le ss m)) ∙ h.whole)
    ∙ ap (λ n. stores at ss ++ drop n old) all

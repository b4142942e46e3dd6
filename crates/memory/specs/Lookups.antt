-- New ids, and ids that are looked up.
use Rattle.std.specs.Prelude.{ℕ, Bool, not, ◌&&◌, List, is_some, Ok, Result, ◌==◌, nat_le}
use Rattle.std.specs.List.{slice_get}
use Rattle.std.specs.Option.{ok_or}
use Rattle.records.specs.declared.refusals.Error.{Error}
use Rattle.records.specs.declared.refusals.Error.TheVariants.{InvalidId, Mismatch}
use Rattle.records.specs.declared.types.TypeInner.{TypeInner}
use Rattle.books.specs.Books.{Book, taken, count}
use Rattle.records.specs.Refusals.{and_then, check}
use Rattle.memory.specs.declared.found.FoundType.{FoundType}
use Rattle.memory.specs.declared.found.FoundValue.{FoundValue}
use Rattle.memory.specs.Shelves.{Shelf}

-- Whether an id can be a new one: it is legal in its own book, and in no book.

abbrev pub is_new : {R S Q : Type 0} → Book R → Book S → Book Q → ℕ → Bool
is_new own second third id = not (taken own id) && (not (is_some (second.held id)) && not (is_some (third.held id)))

abbrev pub new_type : Shelf → ℕ → Bool
new_type b id = is_new b.types b.values b.couples id

abbrev pub new_value : Shelf → ℕ → Bool
new_value b id = is_new b.values b.types b.couples id

abbrev pub new_couple : Shelf → ℕ → Bool
new_couple b id = is_new b.couples b.types b.values id

-- whether an id is in no book
abbrev pub is_free : Shelf → ℕ → Bool
is_free b id = not (is_some (b.types.held id)) && (not (is_some (b.values.held id)) && not (is_some (b.couples.held id)))

-- whether a record more fits into a book
abbrev pub has_space : {R : Type 0} → Book R → Bool
has_space b = not (count b == b.limit)

-- Ids that are looked up: 5 where the book has none, 16 where its record names a number outside the used lists.

abbrev pub type_for : List TypeInner → Shelf → ℕ → ℕ → Result FoundType Error
type_for types b place id =
    and_then (ok_or (b.types.held id) (InvalidId place)) (λ l.
    and_then (ok_or (slice_get types l.handle.index) Mismatch) (λ t.
    Ok (record { handle = l.handle; inner = t })))

abbrev pub value_for : List TypeInner → ℕ → Shelf → ℕ → ℕ → Result FoundValue Error
value_for types expressions b place id =
    and_then (ok_or (b.values.held id) (InvalidId place)) (λ l.
    and_then (check (nat_le expressions l.handle.index) Mismatch) (λ _.
    and_then (ok_or (slice_get types l.ty.index) Mismatch) (λ t.
    Ok (record { handle = l.handle; ty = l.ty; inner = t }))))

-- How a probing book searches: n cells in a ring, from the home of the id on. Only its own code speaks of this.
use Rattle.std.specs.Prelude.{◌≡◌, ℕ, ◌+◌, ◌-◌, ◌*◌, ◌/◌, ◌%◌, ◌<◌, ◌≤◌, Bool, true, false, cond, [], ◌∷◌, length, get_or, Some, None, Option, ◌==◌, bit_xor, nat_le, nat_lt, slice_index_or}
use Rattle.books.specs.declared.ring.Entry.{Entry}
use Rattle.books.specs.Books.{one}
use Rattle.books.specs.Probing.{Cells, probing_held}

-- an id times an odd number, in 32 bits
abbrev pub mixed : ℕ → ℕ
mixed id = id * 0x9E37_79B1 % 0x1_0000_0000

-- The cell at which the search for an id begins. The mix spreads ids that come in runs; all that the search needs of it is
-- that it is one of the n cells.
unfoldable pub home : ℕ → ℕ → ℕ
home n id = bit_xor (mixed id) (mixed id / 0x8000) % n

-- the next cell, round the ring
abbrev pub following : ℕ → ℕ → ℕ
following n i = cond (nat_lt (i + 1) n) (i + 1) 0

-- how many cells the search passes from cell s to cell i
unfoldable pub rank : ℕ → ℕ → ℕ → ℕ
rank n s i = cond (nat_le s i) (i - s) (i + n - s)

-- whether the search for an id ends at a cell: it is free, or holds the id
abbrev pub ends_at : {R : Type 0} → Option (Entry R) → ℕ → Bool
ends_at None id = true
ends_at (Some e) id = e.id == id

-- the search for an id passes the first m cells in its order
abbrev pub Passes : {R : Type 0} → ℕ → Cells R → ℕ → ℕ → Type 0
Passes n cells id m = (j : ℕ) → j < n → rank n (home n id) j < m → ends_at (slice_index_or cells j None) id ≡ false

-- a record e in cell i, and a cell j that comes before i in the order of the record's id
pub record Earlier {R : Type 0} (n : ℕ) (cells : Cells R) : Type 0 where
  pub i : ℕ
  pub e : Entry R
  pub here : get_or cells i None ≡ Some e
  pub j : ℕ
  pub inside : j < n
  pub before : rank n (home n e.id) j < rank n (home n e.id) i

-- the search for the id of each record gets to its cell
abbrev pub Reached : {R : Type 0} → ℕ → Cells R → Type 0
Reached n cells = (p : Earlier n cells) → ends_at (slice_index_or cells p.j None) p.e.id ≡ false

-- the search for an id ends at cell r, or at no cell, where r is n
pub record Sought {R : Type 0} (n : ℕ) (cells : Cells R) (id r : ℕ) : Type 0 where
  pub within : r ≤ n
  pub ends : ends_at (slice_index_or cells r None) id ≡ true
  pub passes : r < n → Passes n cells id (rank n (home n id) r)
  pub all : r ≡ n → Passes n cells id n

-- how many cells are not free
unfoldable pub filled : {R : Type 0} → Cells R → ℕ
filled [] = 0
filled (c ∷ cs) = one c + filled cs

abbrev pub item_of : {R : Type 0} → Option (Entry R) → Option R
item_of None = None
item_of (Some e) = Some e.item

-- What the search for an id comes to in the cells of a book. It ends at the record of the id if there is one, and at a
-- cell unless all are filled.
pub record Slot {R : Type 0} (cells : Cells R) (id r : ℕ) : Type 0 where
  pub sought : Sought (length cells) cells id r
  pub found : probing_held cells id ≡ item_of (slice_index_or cells r None)
  pub room : filled cells < length cells → r < length cells

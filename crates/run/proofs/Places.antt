-- Reading a list: its first i, its rest, and what was put after it.
use Rattle.std.proofs.Common.{◌≡◌, ℕ, zero, suc, ◌<◌, List, [], ◌∷◌, ◌++◌, length, take, drop, Some, refl, ap, arith}
use Rattle.std.specs.List.{slice_get}

pub nth_before : {X : Type 0} (xs ys : List X) (h : ℕ) → h < length xs → slice_get (xs ++ ys) h ≡ slice_get xs h
nth_before [] ys h l = absurd (omega arith)
nth_before (x ∷ xs) ys zero l = refl
nth_before (x ∷ xs) ys (suc h) l = nth_before xs ys h (omega arith)

pub nth_at : {X : Type 0} (xs : List X) (x : X) (ys : List X) (h : ℕ) → h ≡ length xs → slice_get (xs ++ x ∷ ys) h ≡ Some x
nth_at [] x ys zero l = refl
nth_at [] x ys (suc h) l = absurd (omega arith)
nth_at (y ∷ xs) x ys zero l = absurd (omega arith)
nth_at (y ∷ xs) x ys (suc h) l = nth_at xs x ys h (omega arith)

pub one_more : {X : Type 0} (xs : List X) (x : X) → length (xs ++ x ∷ []) ≡ suc (length xs)
one_more [] x = refl
one_more (y ∷ xs) x = ap suc (one_more xs x)

-- what stands at the front of the rest of a list
pub nth_drop : {X : Type 0} (n : ℕ) (xs : List X) (x : X) (ys : List X) → drop n xs ≡ x ∷ ys → slice_get xs n ≡ Some x
nth_drop zero [] x ys is = ap (λ l. slice_get l 0) is
nth_drop zero (y ∷ xs) x ys is = ap (λ l. slice_get l 0) is
nth_drop (suc n) [] x ys is = ap (λ l. slice_get l 0) is
nth_drop (suc n) (y ∷ xs) x ys is = nth_drop n xs x ys is

pub drop_more : {X : Type 0} (n : ℕ) (xs : List X) (x : X) (ys : List X) → drop n xs ≡ x ∷ ys → drop (suc n) xs ≡ ys
drop_more zero [] x ys is = ap (drop 1) is
drop_more zero (y ∷ xs) x ys is = ap (drop 1) is
drop_more (suc n) [] x ys is = ap (drop 1) is
drop_more (suc n) (y ∷ xs) x ys is = drop_more n xs x ys is

pub take_front : {X : Type 0} (xs ys : List X) (n : ℕ) → n ≡ length xs → take n (xs ++ ys) ≡ xs
take_front [] ys zero is = refl
take_front [] ys (suc n) is = absurd (omega arith)
take_front (x ∷ xs) ys zero is = absurd (omega arith)
take_front (x ∷ xs) ys (suc n) is = ap (λ l. x ∷ l) (take_front xs ys n (omega arith))

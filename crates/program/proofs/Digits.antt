-- One digit more of a hexadecimal word.
use Rattle.std.proofs.Common.{◌≡◌, ℕ, ◌+◌, ◌<◌, ◌≤◌, List, [], ◌∷◌, length, get_or, drop, Ok, Err, sym, refl, ap, ◌∙◌}
use Rattle.std.proofs.lemmas.List.{drop_more, drop_all}
use Rattle.program.specs.declared.numbers.BadWord.{BadWord}
use Rattle.program.specs.Numbers.{hex_from, one_more, hex_digit, hex_word}

next_digit : (text : List ℕ) (i n : ℕ) → i < length text
    → hex_from (Ok n) (drop i text) ≡ hex_from (one_more n (hex_digit (get_or text i 0))) (drop (i + 1) text)
unfolding hex_from
next_digit text i n h = ap (hex_from (Ok n)) (drop_more text i 0 h)

stays_bad : (e : BadWord) (text : List ℕ) → hex_from (Err e) text ≡ Err e
unfolding hex_from
stays_bad e [] = refl
stays_bad e (c ∷ cs) = refl

pub digit_read : (text : List ℕ) (i n m : ℕ) → i < length text → Ok m ≡ one_more n (hex_digit (get_or text i 0))
    → hex_from (Ok n) (drop i text) ≡ hex_word text → hex_from (Ok m) (drop (i + 1) text) ≡ hex_word text
digit_read text i n m h e inv = ap (λ r. hex_from r (drop (i + 1) text)) e ∙ sym (next_digit text i n h) ∙ inv

pub digit_refused : (text : List ℕ) (i n : ℕ) (e : BadWord) → i < length text → Err e ≡ one_more n (hex_digit (get_or text i 0))
    → hex_from (Ok n) (drop i text) ≡ hex_word text → Err e ≡ hex_word text
digit_refused text i n e h o inv =
    sym (stays_bad e (drop (i + 1) text)) ∙ ap (λ r. hex_from r (drop (i + 1) text)) o ∙ sym (next_digit text i n h) ∙ inv

pub all_read : (text : List ℕ) (i n : ℕ) → length text ≤ i → hex_from (Ok n) (drop i text) ≡ hex_word text → Ok n ≡ hex_word text
unfolding hex_from
all_read text i n h inv = sym (ap (hex_from (Ok n)) (drop_all i text h)) ∙ inv

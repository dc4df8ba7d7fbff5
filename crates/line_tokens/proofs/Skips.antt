-- The tokens behind the first one.
use Rattle.std.proofs.Common.{◌≡◌, ℕ, zero, suc, ◌-◌, ◌<◌, Bool, true, false, cond, not, List, [], ◌∷◌, length, drop, Option, Some, refl, sym, ap, ◌∙◌, arith}
use Rattle.line_tokens.specs.Tokens.{Token, Placed, token_at, and_more, tokens_behind, tokens_of, begins_token}

tokens_behind-skip : (n : ℕ) (text : List ℕ) → tokens_behind n text ≡ tokens_of (drop n text)
tokens_behind-skip zero text = refl
tokens_behind-skip (suc n) [] = refl
tokens_behind-skip (suc n) (b ∷ bs) = tokens_behind-skip n bs

not_true : (b : Bool) → not b ≡ true → b ≡ false
not_true true e = absurd cc
not_true false e = refl

pub tokens_of-first : (text : List ℕ) (token : Token) (n : ℕ) (rest : List ℕ) → begins_token text ≡ true → (let t : Option (Token × ℕ) = Some (token, n) in t) ≡ token_at text → 0 < n → rest ≡ drop n text
    → tokens_of text ≡ (token, length text) ∷ tokens_of rest
tokens_of-first [] token n rest begins is some behind = absurd cc
tokens_of-first (b ∷ bs) token zero rest begins is some behind = absurd (omega arith)
tokens_of-first (b ∷ bs) token (suc k) rest begins is some behind =
    let one_less : suc k - 1 ≡ k = omega arith in
    ap (λ t. cond t (tokens_behind 0 bs) (and_more (λ n. tokens_behind n bs) (suc (length bs)) (token_at (b ∷ bs)))) (not_true _ begins)
    ∙ ap (and_more (λ n. tokens_behind n bs) (suc (length bs))) (sym is)
    ∙ ap (λ (ts : List Placed). (token, suc (length bs)) ∷ ts) (ap (λ n. tokens_behind n bs) one_less ∙ tokens_behind-skip k bs ∙ ap tokens_of (sym behind))

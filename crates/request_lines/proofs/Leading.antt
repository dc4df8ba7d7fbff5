-- Letters that begin with signs, put together.
use Rattle.std.proofs.Common.{◌≡◌, List, [], ◌∷◌, ◌++◌, sym, ap, subst}
use Rattle.line_forms.specs.Letters.{Letter, Sign, Leads}

-- signs, and others behind them
pub leads_on : (x y : List Sign) (a b c : List Letter) → Leads x a b → Leads y b c → Leads (x ++ y) a c
leads_on [] y a b c h k = subst (λ t. Leads y t c) (sym h) k
leads_on (s ∷ x) y [] b c h k = absurd h
leads_on (s ∷ x) y (l ∷ a) b c h k = (h.0, h.1, leads_on x y a b c h.2 k)

-- more letters behind
pub leads_more : (x : List Sign) (a b : List Letter) → Leads x a [] → Leads x (a ++ b) b
leads_more [] a b h = ap (λ t. t ++ b) h
leads_more (s ∷ x) [] b h = absurd h
leads_more (s ∷ x) (l ∷ a) b h = (h.0, h.1, leads_more x a b h.2)

-- a text of two parts
pub put : (x y : List Sign) (t a b : List Letter) → t ≡ a ++ b → Leads x a [] → Leads y b [] → Leads (x ++ y) t []
put x y t a b e h k = leads_on x y t b [] (subst (λ t. Leads x t b) (sym e) (leads_more x a b h)) k

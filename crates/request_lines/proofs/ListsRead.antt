-- Lists read one item after another.
use Rattle.std.proofs.Common.{◌≡◌, ℕ, List, [], ◌∷◌, ◌++◌, map, Some, refl, sym, ap, subst, ◌∙◌, append_assoc, append-nil, arith}
use Rattle.line_tokens.specs.Tokens.{Token, comma}
use Rattle.type_shapes.specs.declared.mark.Mark.TheVariants.{Dividing}
use Rattle.line_forms.specs.Letters.{Sign, sign, Leads, more_parts, Every, EachPair}
use Rattle.line_forms.specs.declared.fault.LineFault.{LineFault}
use Rattle.line_forms.specs.declared.fault.LineFault.TheVariants.{Syntax, OutOfMemory}
use Rattle.request_lines.specs.proving.Judging.{Goal, step, done, at_step, stop}
use Rattle.request_lines.specs.declared.rest.Rest.{Rest}
use Rattle.request_lines.specs.proving.Letters.{letters_left, IsFurther}
use Rattle.request_lines.specs.proving.Reads.{Passes, IsFault, IsItem, AreItems}
use Rattle.request_lines.proofs.Leading.{leads_on}
use Rattle.request_lines.proofs.Steps.{HasNoMark, left_out}

pub further_on : (rest mid left : Rest) → IsFurther rest mid → IsFurther mid left → IsFurther rest left
further_on rest mid left h k = record { whole = k.whole ∙ h.whole; within = omega (arith, h.within, k.within) }

-- one part and then another
pub passes_on : (goals more : List Goal) (rest mid left : Rest) → IsFurther rest mid → Passes goals rest mid → Passes more mid left → (s : List Goal)
    → stop rest.whole (goals ++ (more ++ s)) (letters_left rest) ≡ stop rest.whole s (letters_left left)
passes_on goals more rest mid left on h k s = h (more ++ s) ∙ ap (λ n. stop n (more ++ s) (letters_left mid)) (sym on.whole) ∙ k s ∙ ap (λ n. stop n s (letters_left left)) on.whole

-- ---- what was read so far

pub record SoFar {T V : Type 0} (fits : T → Type 0) (stands : T → V → Type 0) (signs : T → List Sign) (firsts : List Goal) (more : Goal) (rest left : Rest) (read : List V) : Type 0 where
  pub further : IsFurther rest left
  pub spelled : AreItems fits stands signs read (letters_left rest) (letters_left left)
  pub passes : (s : List Goal) → stop rest.whole (firsts ++ (more ∷ s)) (letters_left rest) ≡ stop rest.whole (more ∷ s) (letters_left left)

every-snoc : {T : Type 0} (fact : T → Type 0) (ts : List T) (u : T) → Every fact ts → fact u → Every fact (ts ++ u ∷ [])
every-snoc fact [] u h k = (k, tt)
every-snoc fact (t ∷ ts) u h k = (h.0, every-snoc fact ts u h.1 k)

each-snoc : {T V : Type 0} (pair : T → V → Type 0) (ts : List T) (u : T) (vs : List V) (v : V) → EachPair pair ts vs → pair u v → EachPair pair (ts ++ u ∷ []) (vs ++ v ∷ [])
each-snoc pair [] u [] v h k = (k, tt)
each-snoc pair [] u (w ∷ vs) v h k = absurd h
each-snoc pair (t ∷ ts) u [] v h k = absurd h
each-snoc pair (t ∷ ts) u (w ∷ vs) v h k = (h.0, each-snoc pair ts u vs v h.1 k)

pub each-map : {T V W : Type 0} (pair : T → W → Type 0) (f : V → W) (ts : List T) (vs : List V) → EachPair (λ t v. pair t (f v)) ts vs → EachPair pair ts (map f vs)
each-map pair f [] [] h = tt
each-map pair f [] (v ∷ vs) h = absurd h
each-map pair f (t ∷ ts) [] h = absurd h
each-map pair f (t ∷ ts) (v ∷ vs) h = (h.0, each-map pair f ts vs h.1)

parts-snoc : {T : Type 0} (signs : T → List Sign) (ts : List T) (u : T) → more_parts (map signs (ts ++ u ∷ [])) ≡ more_parts (map signs ts) ++ (sign comma ∷ signs u)
parts-snoc signs [] u = ap (λ x. sign comma ∷ x) (append-nil (signs u))
parts-snoc signs (t ∷ ts) u = ap (λ x. sign comma ∷ (signs t ++ x)) (parts-snoc signs ts u) ∙ ap (λ x. sign comma ∷ x) (sym (append_assoc (signs t) (more_parts (map signs ts)) (sign comma ∷ signs u)))

pub list_begins : {T V : Type 0} (fits : T → Type 0) (stands : T → V → Type 0) (signs : T → List Sign) (firsts : List Goal) (more : Goal) (rest left : Rest) (v : V) (read : List V)
    → IsItem fits stands signs v (letters_left rest) (letters_left left) → IsFurther rest left → Passes firsts rest left → read ≡ v ∷ [] → SoFar fits stands signs firsts more rest left read
list_begins fits stands signs firsts more rest left v read h on passes e = subst (SoFar fits stands signs firsts more rest left) (sym e) (record {
  further = on;
  spelled = (h.0, [], (h.1, tt), (h.2, tt), subst (λ x. Leads x (letters_left rest) (letters_left left)) (sym (append-nil (signs h.0))) h.3);
  passes = λ s. passes (more ∷ s);
})

-- behind a comma
pub comma_passes : (goals firsts : List Goal) (more : Goal) (rest left behind : Rest) (at : ℕ) (s : List Goal) → ((s : List Goal) → step (more ∷ s) comma ≡ Some (firsts ++ (more ∷ s))) → letters_left left ≡ (comma, at) ∷ letters_left behind
    → stop rest.whole goals (letters_left rest) ≡ stop rest.whole (more ∷ s) (letters_left left) → stop rest.whole goals (letters_left rest) ≡ stop rest.whole (firsts ++ (more ∷ s)) (letters_left behind)
comma_passes goals firsts more rest left behind at s goes first h = h ∙ ap (stop rest.whole (more ∷ s)) first ∙ ap (at_step (λ v. stop rest.whole v (letters_left behind)) at) (goes s)

pub list_more : {T V : Type 0} (fits : T → Type 0) (stands : T → V → Type 0) (signs : T → List Sign) (firsts : List Goal) (more : Goal) → ((s : List Goal) → step (more ∷ s) comma ≡ Some (firsts ++ (more ∷ s)))
    → (rest left behind after : Rest) (v : V) (read new : List V) (at : ℕ) → SoFar fits stands signs firsts more rest left read → letters_left left ≡ (comma, at) ∷ letters_left behind → IsFurther left behind
    → IsItem fits stands signs v (letters_left behind) (letters_left after) → IsFurther behind after → Passes firsts behind after → new ≡ read ++ v ∷ [] → SoFar fits stands signs firsts more rest after new
list_more fits stands signs firsts more goes rest left behind after v read new at h first on k on_item passes e =
    let was = h.spelled in
    let whole : behind.whole ≡ rest.whole = on.whole ∙ h.further.whole in
    let last : Leads (sign comma ∷ signs k.0) (letters_left left) (letters_left after) = subst (λ x. Leads (sign comma ∷ signs k.0) x (letters_left after)) (sym first) (refl, tt, k.3) in
    let joined = leads_on (signs was.0 ++ more_parts (map signs was.1)) (sign comma ∷ signs k.0) (letters_left rest) (letters_left left) (letters_left after) was.4 last in
    let parts : (signs was.0 ++ more_parts (map signs was.1)) ++ (sign comma ∷ signs k.0) ≡ signs was.0 ++ more_parts (map signs (was.1 ++ k.0 ∷ [])) =
    append_assoc (signs was.0) (more_parts (map signs was.1)) (sign comma ∷ signs k.0) ∙ ap (λ x. signs was.0 ++ x) (sym (parts-snoc signs was.1 k.0)) in
    subst (SoFar fits stands signs firsts more rest after) (sym e) (record {
      further = further_on rest left after h.further (further_on left behind after on on_item);
      spelled = (
        was.0,
        was.1 ++ k.0 ∷ [],
        every-snoc fits (was.0 ∷ was.1) k.0 was.2 k.1,
        each-snoc stands (was.0 ∷ was.1) k.0 read v was.3 k.2,
        subst (λ x. Leads x (letters_left rest) (letters_left after)) parts joined,
      );
      passes = λ s.
          comma_passes (firsts ++ (more ∷ s)) firsts more rest left behind at s goes first (h.passes s)
          ∙ ap (λ n. stop n (firsts ++ (more ∷ s)) (letters_left behind)) (sym whole) ∙ passes (more ∷ s) ∙ ap (λ n. stop n (more ∷ s) (letters_left after)) whole;
    })

-- no further item comes
pub list_ends : {T V : Type 0} (fits : T → Type 0) (stands : T → V → Type 0) (signs : T → List Sign) (firsts : List Goal) (more : Goal) → ((s : List Goal) → done (more ∷ s) ≡ done s) → ((s : List Goal) (t : Token) → (t ≡ comma → ⊥) → step (more ∷ s) t ≡ step s t)
    → (rest left : Rest) (read : List V) → SoFar fits stands signs firsts more rest left read → HasNoMark Dividing (letters_left left)
    → AreItems fits stands signs read (letters_left rest) (letters_left left) × IsFurther rest left × ((s : List Goal) → stop rest.whole (firsts ++ (more ∷ s)) (letters_left rest) ≡ stop rest.whole s (letters_left left))
list_ends fits stands signs firsts more ends others rest left read h none = (h.spelled, h.further, λ s. h.passes s ∙ left_out rest.whole more Dividing s (letters_left left) (ends s) (others s) none)

-- a fault in a further item
pub list_fails : (firsts : List Goal) (more : Goal) (rest left behind : Rest) (at : ℕ) (fault : LineFault) → ((s : List Goal) → step (more ∷ s) comma ≡ Some (firsts ++ (more ∷ s))) → letters_left left ≡ (comma, at) ∷ letters_left behind → behind.whole ≡ rest.whole
    → ((s : List Goal) → stop rest.whole (firsts ++ (more ∷ s)) (letters_left rest) ≡ stop rest.whole (more ∷ s) (letters_left left)) → IsFault firsts behind fault → (goals : List Goal) → ((s : List Goal) → goals ++ s ≡ firsts ++ (more ∷ s)) → IsFault goals rest fault
list_fails firsts more rest left behind at (Syntax place) goes first whole h k goals same = λ s.
    ap (λ v. stop rest.whole v (letters_left rest)) (same s) ∙ comma_passes (firsts ++ (more ∷ s)) firsts more rest left behind at s goes first (h s) ∙ ap (λ n. stop n (firsts ++ (more ∷ s)) (letters_left behind)) (sym whole) ∙ k (more ∷ s)
list_fails firsts more rest left behind at OutOfMemory goes first whole h k goals same = tt

-- A type within a line is skipped.
use Rattle.std.proofs.Common.{◌≡◌, ℕ, ◌≤◌, List, [], ◌∷◌, ◌++◌, length, map, reverse, Option, Some, None, refl, sym, ap, subst, ◌∙◌, append_assoc, append-nil, arith}
use Rattle.std.proofs.lemmas.List.{map-append, reverse-append}
use Rattle.line_tokens.specs.Tokens.{Token}
use Rattle.type_names.specs.TypeTexts.{tokens_of}
use Rattle.type_names.specs.declared.goal.Goal.{Goal as TypeGoal}
use Rattle.type_names.specs.declared.goal.Goal.TheVariants.{AnyType}
use Rattle.type_names.specs.Judging as types
use Rattle.type_names.proofs.Found as types_found
use Rattle.line_forms.specs.Letters.{Letter, sign, Leads, place}
use Rattle.request_lines.specs.proving.Judging.{Goal, in_type, in_types, at_step, stop}
use Rattle.request_lines.specs.declared.rest.Rest.{Rest}
use Rattle.request_lines.specs.proving.Letters.{letters_left, IsFurther}
use Rattle.request_lines.specs.proving.Reads.{Passes, IsFault, IsType}
use Rattle.line_forms.specs.declared.fault.LineFault.TheVariants.{Syntax}
use Rattle.request_lines.proofs.Found.{tokens_in, anywhere, type_alone}
use Rattle.request_lines.proofs.Leading.{leads_more}
use Rattle.request_lines.proofs.TypesIn.{onto}

-- what was skipped so far, and the goals that are left, the next one last
pub record IsSkipping (rest left : Rest) (goals : List TypeGoal) : Type 0 where
  pub line : left.whole ≡ rest.whole
  pub within : length left.text.now ≤ length rest.text.now
  pub front : List Letter
  pub whole : letters_left rest ≡ front ++ letters_left left
  pub types : (ts : List Token) → types_found.Left (reverse goals) ts → types_found.Left (AnyType ∷ []) (tokens_in front ++ ts)
  pub passes : (s : List Goal) → stop rest.whole (in_type AnyType ∷ s) (letters_left rest) ≡ stop rest.whole (map in_type (reverse goals) ++ s) (letters_left left)

pub skip_begins : (rest : Rest) (goals : List TypeGoal) → goals ≡ AnyType ∷ [] → IsSkipping rest rest goals
skip_begins rest goals e = subst (IsSkipping rest rest) (sym e) (record {
  line = refl;
  within = omega arith;
  front = [];
  whole = refl;
  types = λ ts h. h;
  passes = λ s. refl;
})

reverse-snoc : (goals : List TypeGoal) (g : TypeGoal) → reverse (goals ++ g ∷ []) ≡ g ∷ reverse goals
reverse-snoc goals g = reverse-append goals (g ∷ [])

-- at the next goal
at_goal : (rest left : Rest) (goals below : List TypeGoal) (g : TypeGoal) → IsSkipping rest left goals → goals ≡ below ++ g ∷ [] → (s : List Goal)
    → stop rest.whole (in_type AnyType ∷ s) (letters_left rest) ≡ stop rest.whole (in_type g ∷ (map in_type (reverse below) ++ s)) (letters_left left)
at_goal rest left goals below g h popped s = h.passes s ∙ ap (λ v. stop rest.whole (map in_type v ++ s) (letters_left left)) (ap reverse popped ∙ reverse-snoc below g)

-- the machine of types at one token
alone_step : (g : TypeGoal) (t : Token) (o : Option (List TypeGoal)) → ((below : List TypeGoal) → types.step (g ∷ below) t ≡ onto below o) → types.step (g ∷ []) t ≡ onto [] o
alone_step g t o h = h []

onto_nil : (o : Option (List TypeGoal)) → onto [] o ≡ o
onto_nil None = refl
onto_nil (Some more) = ap Some (append-nil more)

pub skip_on : (rest left behind : Rest) (goals below more new : List TypeGoal) (g : TypeGoal) (t : Token) (at : ℕ) → IsSkipping rest left goals → goals ≡ below ++ g ∷ [] → letters_left left ≡ (t, at) ∷ letters_left behind → IsFurther left behind
    → ((s : List TypeGoal) → types.step (g ∷ s) t ≡ Some (reverse more ++ s)) → new ≡ below ++ more → IsSkipping rest behind new
skip_on rest left behind goals below more new g t at h popped first on stepped pushed =
    let rev : reverse new ≡ reverse more ++ reverse below = ap reverse pushed ∙ reverse-append below more in
    let alone : types.step (g ∷ []) t ≡ Some (reverse more) = stepped [] ∙ ap Some (append-nil (reverse more)) in
    record {
      line = on.whole ∙ h.line;
      within = omega (arith, on.within, h.within);
      front = h.front ++ ((t, at) ∷ []);
      whole = h.whole ∙ ap (λ x. h.front ++ x) first ∙ sym (append_assoc h.front ((t, at) ∷ []) (letters_left behind));
      types = λ ts k.
          let more_left : types_found.Left (reverse more ++ reverse below) ts = subst (λ v. types_found.Left v ts) rev k in
          let moved : types_found.Left (g ∷ reverse below) (t ∷ ts) = (types_found.moves (g ∷ reverse below) t ts (reverse more ++ reverse below) tt (stepped (reverse below))).1 more_left in
          let before : types_found.Left (reverse goals) (t ∷ ts) = subst (λ v. types_found.Left v (t ∷ ts)) (sym (ap reverse popped ∙ reverse-snoc below g)) moved in
          subst (λ v. types_found.Left (AnyType ∷ []) v) (sym (ap (λ x. x ++ ts) (map-append (λ (l : Letter). l.0) h.front ((t, at) ∷ [])) ∙ append_assoc (tokens_in h.front) (t ∷ []) ts)) (h.types (t ∷ ts) before);
      passes = λ s.
          at_goal rest left goals below g h popped s
          ∙ ap (stop rest.whole (in_type g ∷ (map in_type (reverse below) ++ s))) first
          ∙ ap (λ o. at_step (λ v. stop rest.whole v (letters_left behind)) at (in_types o (map in_type (reverse below) ++ s))) alone
          ∙ ap (λ v. stop rest.whole v (letters_left behind)) (sym (ap (λ v. map in_type v ++ s) rev ∙ ap (λ v. v ++ s) (map-append in_type (reverse more) (reverse below)) ∙ append_assoc (map in_type (reverse more)) (map in_type (reverse below)) s));
    }

-- a token that can't come
pub skip_stops : (rest left : Rest) (goals below : List TypeGoal) (g : TypeGoal) (t : Token) (at : ℕ) (letters : List Letter) → IsSkipping rest left goals → goals ≡ below ++ g ∷ [] → letters_left left ≡ (t, at) ∷ letters
    → ((s : List TypeGoal) → types.step (g ∷ s) t ≡ None) → IsFault (in_type AnyType ∷ []) rest (Syntax (place left.whole 0 (letters_left left)))
skip_stops rest left goals below g t at letters h popped first stepped = λ s.
    at_goal rest left goals below g h popped s
    ∙ ap (stop rest.whole (in_type g ∷ (map in_type (reverse below) ++ s))) first
    ∙ ap (λ o. at_step (λ v. stop rest.whole v letters) at (in_types o (map in_type (reverse below) ++ s))) (stepped [])
    ∙ ap Some (sym (ap (place left.whole 0) first))

-- the line ends too early
pub skip_ends : (rest left : Rest) (goals below : List TypeGoal) (g : TypeGoal) → IsSkipping rest left goals → goals ≡ below ++ g ∷ [] → letters_left left ≡ [] → IsFault (in_type AnyType ∷ []) rest (Syntax (place left.whole 0 (letters_left left)))
skip_ends rest left goals below g h popped none = λ s.
    at_goal rest left goals below g h popped s
    ∙ ap (stop rest.whole (in_type g ∷ (map in_type (reverse below) ++ s))) none
    ∙ ap Some (sym (ap (place left.whole 0) none ∙ h.line))

-- all goals are met
pub skipped : (rest left : Rest) (goals : List TypeGoal) → IsSkipping rest left goals → goals ≡ [] → IsType (letters_left rest) (letters_left left) × IsFurther rest left × Passes (in_type AnyType ∷ []) rest left
skipped rest left goals h none =
    let ended : types_found.Left (reverse goals) [] = subst (λ v. types_found.Left (reverse v) []) (sym none) refl in
    let all = h.types [] ended in
    let ty = type_alone AnyType (tokens_in h.front ++ []) all in
    let tokens : tokens_in h.front ≡ tokens_of ty.0 = sym (append-nil (tokens_in h.front)) ∙ ty.2 in (
      (ty.0, ty.1, subst (λ x. Leads (map sign (tokens_of ty.0)) x (letters_left left)) (sym h.whole) (leads_more (map sign (tokens_of ty.0)) h.front (letters_left left) (anywhere (tokens_of ty.0) h.front tokens))),
      record { whole = h.line; within = h.within },
      λ s. h.passes s ∙ ap (λ v. stop rest.whole (map in_type (reverse v) ++ s) (letters_left left)) none,
    )

-- What a type's text begins with, and what follows each name.
use Rattle.std.proofs.Common.{◌≡◌, ℕ, ◌<◌, List, [], ◌∷◌, ◌++◌, codes, Bool, true, false, cond, ◌||◌, Some, None, refl, sym, ap, ◌∙◌, append_assoc, arith}
use Rattle.std.specs.Str.{bytes_eq}
use Rattle.std.proofs.lemmas.Slice.Eq.{bytes_eq-Decides}
use mir.Syntax.{w8, w16, w32, w64}
use Rattle.line_tokens.specs.Tokens.{Token, word, open_bracket, close_bracket, comma}
use Rattle.type_names.specs.TypeTexts.{WrittenType as Written, WrittenTypes as WrittenTypes, plain, array, map_of, nullable, state, is_plain_name, tokens_of, tokens_of_all, brackets, ShapeFits}
use Rattle.type_shapes.specs.Shapes.{Shape, Whole, Signed, Str, plain_shape, nesting}

pub behind_first : (t : Token) (r s : List Token) → t ∷ r ≡ t ∷ s → r ≡ s
behind_first t r s e = cc

pub same_bytes : (x y : List ℕ) → bytes_eq x y ≡ true → x ≡ y
same_bytes x y e = (bytes_eq-Decides x y).0 e

pub other_bytes : (x y : List ℕ) → bytes_eq x y ≡ false → x ≡ y → ⊥
other_bytes x y unlike e = let h : bytes_eq x y ≡ true = (bytes_eq-Decides x y).1 e in absurd cc

pub names : (w v : List ℕ) (r s : List Token) → word w ∷ r ≡ word v ∷ s → (w ≡ v) × (r ≡ s)
names w v r s e = (cc, cc)

pub nesting_is_some : (ty : Written) → 0 < nesting ty
nesting_is_some (plain w) = omega arith
nesting_is_some (array ty) = omega arith
nesting_is_some (map_of key ty) = omega arith
nesting_is_some (nullable ty) = omega arith
nesting_is_some (state name literals types) = omega arith

-- a type's text begins with a name
pub begins_with_name : (ty : Written) (more : List Token) → (w : List ℕ) × (r : List Token) × (tokens_of ty ++ more ≡ word w ∷ r)
begins_with_name (plain w) more = (w, more, refl)
begins_with_name (array ty) more = (codes "Array", _, refl)
begins_with_name (map_of key ty) more = (codes "Map", _, refl)
begins_with_name (nullable ty) more = (codes "Nullable", _, refl)
begins_with_name (state name literals types) more = (codes "AggregateFunction", _, refl)

no_shape : (w k : List ℕ) → is_plain_name k ≡ false → is_plain_name w ≡ true → w ≡ k → ⊥
no_shape w k unlike like e = let h : is_plain_name k ≡ true = sym (ap is_plain_name e) ∙ like in absurd cc

no_plain : (w k : List ℕ) (s : Shape) → plain_shape k ≡ None → plain_shape w ≡ Some s → w ≡ k → ⊥
no_plain w k s unlike like e = let h : plain_shape k ≡ Some s = sym (ap plain_shape e) ∙ like in absurd cc

-- behind a name without parts
pub after_plain : (w : List ℕ) (s : Shape) (ty : Written) (r more : List Token) → plain_shape w ≡ Some s → word w ∷ r ≡ tokens_of ty ++ more → (ty ≡ plain w) × (r ≡ more)
after_plain w s (plain v) r more h e = let n = names w v r more e in (ap plain (sym n.0), n.1)
after_plain w s (array ty) r more h e = absurd (no_plain w (codes "Array") s refl h (names _ _ _ _ e).0)
after_plain w s (map_of key ty) r more h e = absurd (no_plain w (codes "Map") s refl h (names _ _ _ _ e).0)
after_plain w s (nullable ty) r more h e = absurd (no_plain w (codes "Nullable") s refl h (names _ _ _ _ e).0)
after_plain w s (state name literals types) r more h e = absurd (no_plain w (codes "AggregateFunction") s refl h (names _ _ _ _ e).0)

pub record AfterArray (ty : Written) (r more : List Token) : Type 0 where
  pub item : Written
  pub is : ty ≡ array item
  pub fits : ShapeFits item
  pub tokens : r ≡ open_bracket ∷ (tokens_of item ++ (close_bracket ∷ more))

pub after_array : (ty : Written) (r more : List Token) → ShapeFits ty → word (codes "Array") ∷ r ≡ tokens_of ty ++ more → AfterArray ty r more
after_array (plain v) r more f e = absurd (no_shape v (codes "Array") refl f (sym (names _ _ _ _ e).0))
after_array (array ty) r more f e = record { item = ty; is = refl; fits = f; tokens = (names _ _ _ _ e).1 ∙ ap (λ x. open_bracket ∷ x) (append_assoc (tokens_of ty) (close_bracket ∷ []) more) }
after_array (map_of key ty) r more f e = absurd (other_bytes (codes "Array") (codes "Map") refl (names _ _ _ _ e).0)
after_array (nullable ty) r more f e = absurd (other_bytes (codes "Array") (codes "Nullable") refl (names _ _ _ _ e).0)
after_array (state name literals types) r more f e = absurd (other_bytes (codes "Array") (codes "AggregateFunction") refl (names _ _ _ _ e).0)

pub record AfterNullable (ty : Written) (r more : List Token) : Type 0 where
  pub of : Written
  pub is : ty ≡ nullable of
  pub fits : ShapeFits of
  pub tokens : r ≡ open_bracket ∷ (tokens_of of ++ (close_bracket ∷ more))

pub after_nullable : (ty : Written) (r more : List Token) → ShapeFits ty → word (codes "Nullable") ∷ r ≡ tokens_of ty ++ more → AfterNullable ty r more
after_nullable (plain v) r more f e = absurd (no_shape v (codes "Nullable") refl f (sym (names _ _ _ _ e).0))
after_nullable (nullable ty) r more f e = record { of = ty; is = refl; fits = f.1; tokens = (names _ _ _ _ e).1 ∙ ap (λ x. open_bracket ∷ x) (append_assoc (tokens_of ty) (close_bracket ∷ []) more) }
after_nullable (map_of key ty) r more f e = absurd (other_bytes (codes "Nullable") (codes "Map") refl (names _ _ _ _ e).0)
after_nullable (array ty) r more f e = absurd (other_bytes (codes "Nullable") (codes "Array") refl (names _ _ _ _ e).0)
after_nullable (state name literals types) r more f e = absurd (other_bytes (codes "Nullable") (codes "AggregateFunction") refl (names _ _ _ _ e).0)

pub record AfterMap (ty : Written) (r more : List Token) : Type 0 where
  pub key : Written
  pub item : Written
  pub is : ty ≡ map_of key item
  pub key_fits : ShapeFits key
  pub fits : ShapeFits item
  pub tokens : r ≡ open_bracket ∷ (tokens_of key ++ (comma ∷ (tokens_of item ++ (close_bracket ∷ more))))

pub after_map : (ty : Written) (r more : List Token) → ShapeFits ty → word (codes "Map") ∷ r ≡ tokens_of ty ++ more → AfterMap ty r more
after_map (plain v) r more f e = absurd (no_shape v (codes "Map") refl f (sym (names _ _ _ _ e).0))
after_map (map_of key ty) r more f e = record {
  key = key;
  item = ty;
  is = refl;
  key_fits = f.1;
  fits = f.2;
  tokens = (names _ _ _ _ e).1 ∙ ap (λ x. open_bracket ∷ x) (append_assoc (tokens_of key) (comma ∷ (tokens_of ty ++ (close_bracket ∷ []))) more ∙ ap (λ x. tokens_of key ++ (comma ∷ x)) (append_assoc (tokens_of ty) (close_bracket ∷ []) more));
}
after_map (array ty) r more f e = absurd (other_bytes (codes "Map") (codes "Array") refl (names _ _ _ _ e).0)
after_map (nullable ty) r more f e = absurd (other_bytes (codes "Map") (codes "Nullable") refl (names _ _ _ _ e).0)
after_map (state name literals types) r more f e = absurd (other_bytes (codes "Map") (codes "AggregateFunction") refl (names _ _ _ _ e).0)

pub record AfterState (ty : Written) (r more : List Token) : Type 0 where
  pub name : List ℕ
  pub literals : List Token
  pub types : WrittenTypes
  pub is : ty ≡ state name literals types
  pub fits : ShapeFits (state name literals types)
  pub tokens : r ≡ open_bracket ∷ word name ∷ (brackets literals ++ (tokens_of_all types ++ more))

pub after_state : (ty : Written) (r more : List Token) → ShapeFits ty → word (codes "AggregateFunction") ∷ r ≡ tokens_of ty ++ more → AfterState ty r more
after_state (plain v) r more f e = absurd (no_shape v (codes "AggregateFunction") refl f (sym (names _ _ _ _ e).0))
after_state (state name literals types) r more f e = record {
  name = name;
  literals = literals;
  types = types;
  is = refl;
  fits = f;
  tokens = (names _ _ _ _ e).1 ∙ ap (λ x. open_bracket ∷ word name ∷ x) (append_assoc (brackets literals) (tokens_of_all types) more);
}
after_state (array ty) r more f e = absurd (other_bytes (codes "AggregateFunction") (codes "Array") refl (names _ _ _ _ e).0)
after_state (nullable ty) r more f e = absurd (other_bytes (codes "AggregateFunction") (codes "Nullable") refl (names _ _ _ _ e).0)
after_state (map_of key ty) r more f e = absurd (other_bytes (codes "AggregateFunction") (codes "Map") refl (names _ _ _ _ e).0)

-- each name without parts has its shape
one_of_nine : (a b c d e f g h i : Bool) → (a || b || c || d || e || f || g || h || i) ≡ true
    → cond a (Some (Whole 8)) (cond b (Some (Whole 16)) (cond c (Some (Whole 32)) (cond d (Some (Whole 64)) (cond e (Some (Signed w8)) (cond f (Some (Signed w16)) (cond g (Some (Signed w32)) (cond h (Some (Signed w64)) (cond i (Some Str) None)))))))) ≡ None → ⊥
one_of_nine true b c d e f g h i some lacks = absurd cc
one_of_nine false true c d e f g h i some lacks = absurd cc
one_of_nine false false true d e f g h i some lacks = absurd cc
one_of_nine false false false true e f g h i some lacks = absurd cc
one_of_nine false false false false true f g h i some lacks = absurd cc
one_of_nine false false false false false true g h i some lacks = absurd cc
one_of_nine false false false false false false true h i some lacks = absurd cc
one_of_nine false false false false false false false true i some lacks = absurd cc
one_of_nine false false false false false false false false true some lacks = absurd cc
one_of_nine false false false false false false false false false some lacks = absurd cc

plain_has_shape : (w : List ℕ) → is_plain_name w ≡ true → plain_shape w ≡ None → ⊥
plain_has_shape w some lacks = one_of_nine (bytes_eq w (codes "UInt8")) (bytes_eq w (codes "UInt16")) (bytes_eq w (codes "UInt32")) (bytes_eq w (codes "UInt64")) (bytes_eq w (codes "Int8")) (bytes_eq w (codes "Int16")) (bytes_eq w (codes "Int32")) (bytes_eq w (codes "Int64")) (bytes_eq w (codes "String")) some lacks

-- a type's text begins with no other name
pub no_other : (w : List ℕ) (ty : Written) (r more : List Token) → ShapeFits ty → plain_shape w ≡ None → bytes_eq w (codes "Array") ≡ false → bytes_eq w (codes "Map") ≡ false → bytes_eq w (codes "Nullable") ≡ false → bytes_eq w (codes "AggregateFunction") ≡ false
    → word w ∷ r ≡ tokens_of ty ++ more → ⊥
no_other w (plain v) r more f p a m n s e = plain_has_shape w (ap is_plain_name (names _ _ _ _ e).0 ∙ f) p
no_other w (array ty) r more f p a m n s e = other_bytes w (codes "Array") a (names _ _ _ _ e).0
no_other w (map_of key ty) r more f p a m n s e = other_bytes w (codes "Map") m (names _ _ _ _ e).0
no_other w (nullable ty) r more f p a m n s e = other_bytes w (codes "Nullable") n (names _ _ _ _ e).0
no_other w (state name literals types) r more f p a m n s e = other_bytes w (codes "AggregateFunction") s (names _ _ _ _ e).0

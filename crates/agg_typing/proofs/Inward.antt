-- What stands inside a legal chain is legal.
use Rattle.std.proofs.Common.{◌≡◌, refl, ap, sym, ◌∙◌, subst, ℕ, suc, ◌-◌, ◌*◌, ◌≤◌, nat_lt, nat_le, true, false, not, ◌&&◌, List, [], ◌∷◌, length, Option, Some, None, is_none, arith}
use Rattle.std.proofs.lemmas.Bool.{le-ltb}
use Rattle.agg_terms.specs.declared.words.Suffix.{Suffix}
use Rattle.agg_terms.specs.Chains.{Chain, Ty, Tys, tys_list}
use Rattle.agg_terms.specs.Chains as C
use Rattle.agg_terms.specs.Lists.{Each, front, numbered}
use Rattle.agg_terms.specs.Types.{element, map_part, intervals, inward}
use Rattle.agg_typing.specs.Suffixes.{has_few_suffixes, has_array_outside_if, arguments_reaching}
use Rattle.agg_typing.specs.Parameters.{pattern_conditions}
use Rattle.agg_typing.specs.Counts.{arg_count, greatest, inside_maps, least, takes_count}
use Rattle.agg_typing.specs.Kinds.{Arg, arg_types, each_is, holds_no_state, is_array, is_condition, is_map, is_number, last_is, with_parts}
use Rattle.agg_typing.specs.States.{is_state_of, is_state_or_merge, wrong_state}
use Rattle.agg_typing.specs.Same.{same_chain}
use Rattle.agg_typing.specs.Legal.{suffixes_of, inner_chain, is_range, in_range, is_formed, is_typed, is_legal, all_legal}
use Rattle.agg_typing.specs.Promises.{IsLegalCall}
use Rattle.agg_typing.proofs.Same.{both, chain_exact}
use Rattle.agg_typing.proofs.Tests.{types, IsLegalType, or_none, is_none_is, in_bounds}
use Rattle.agg_typing.proofs.Reaching.{types-front, length-front, each-front, types-within, length-within, each-within, legal-element, legal-map_part, types-numbered, length-numbered, each-legal, legal-each, legal-tys_list, is_state, same-numbered, same_arg_types, same_wrong_state}
use Rattle.agg_typing.proofs.Formed.{Formed, formed, is_formed_is, few_inward, order_inward, narrower, proper, some_interval}

-- what the rules say of the arguments that reach a link
pub record Passes (c : Chain) (args : List Arg) : Type 0 where
  pub formed_ok : Formed c (length args)
  pub least_ok : least c ≤ length args
  pub greatest_ok : length args ≤ greatest c
  pub maps_ok : inside_maps c ≡ None
  pub types_ok : arg_types c args ≡ None
  pub states_ok : wrong_state c args ≡ None
  pub legal_ok : Each IsLegalType (types args)

pub legal_passes : (c : Chain) (ts : List Ty) → IsLegalCall c ts → Passes c (numbered 1 ts)
legal_passes c ts l =
    let a = both (is_formed c (length ts)) (is_typed c ts) l.0 in
    let b = both (is_none (arg_count c (length ts))) (is_none (arg_types c (numbered 1 ts)) && is_none (wrong_state c (numbered 1 ts))) a.1 in
    let d = both (is_none (arg_types c (numbered 1 ts))) (is_none (wrong_state c (numbered 1 ts))) b.1 in
    let counts = or_none (takes_count c (length ts)) (inside_maps c) (is_none_is (arg_count c (length ts)) b.0) in
    let bounds = in_bounds c (length ts) counts.0 in
    let same : length (numbered 1 ts) ≡ length ts = length-numbered 1 ts in
    record {
      formed_ok = subst (Formed c) (sym same) (formed c (length ts) a.0);
      least_ok = omega (arith, bounds.0, same);
      greatest_ok = omega (arith, bounds.1, same);
      maps_ok = counts.1;
      types_ok = is_none_is (arg_types c (numbered 1 ts)) d.0;
      states_ok = is_none_is (wrong_state c (numbered 1 ts)) d.1;
      legal_ok = each-legal 1 ts l.1;
    }

pub passes_legal : (c : Chain) (args : List Arg) → Passes c args → IsLegalCall c (types args)
passes_legal c args p =
    let ts : List Ty = types args in
    let one : List Arg = numbered 1 ts in
    let same : length args ≡ length ts = length-types args in
    let least_is : nat_lt (length ts) (least c) ≡ false = le-ltb (length ts) (least c) (omega (arith, same, p.least_ok)) in
    let most_is : nat_lt (greatest c) (length ts) ≡ false = le-ltb (greatest c) (length ts) (omega (arith, same, p.greatest_ok)) in
    let counts : arg_count c (length ts) ≡ None = rw (least_is, most_is, p.maps_ok) in
    let kinds : arg_types c one ≡ None = same_arg_types c args one (same-numbered 1 args) p.types_ok in
    let states : wrong_state c one ≡ None = same_wrong_state c args one (same-numbered 1 args) p.states_ok in
    let form : is_formed c (length ts) ≡ true = is_formed_is c (length ts) (subst (Formed c) same p.formed_ok) in
    (rw (form, counts, kinds, states), legal-each ts p.legal_ok)
  where
    length-types : (bs : List Arg) → length bs ≡ length (types bs)
    length-types [] = refl
    length-types (b ∷ bs) = ap suc (length-types bs)

-- arguments of these types pass
pub record Reaches (c : Chain) (ts : List Ty) : Type 0 where
  pub args : List Arg
  pub types_are : types args ≡ ts
  pub passes : Passes c args

-- the same arguments pass at the link inside one that only wraps
wrapped : (c d : Chain) (args : List Arg) → Passes c args →
    Formed d (length args) → least d ≤ least c → greatest c ≤ greatest d → (inside_maps c ≡ inside_maps d) →
    (arg_types d args ≡ None) → (wrong_state c args ≡ wrong_state d args) → Reaches d (types args)
wrapped c d args p f low high maps kinds states = record {
  args = args;
  types_are = refl;
  passes = record {
    formed_ok = f;
    least_ok = omega (arith, p.least_ok, low);
    greatest_ok = omega (arith, p.greatest_ok, high);
    maps_ok = sym maps ∙ p.maps_ok;
    types_ok = kinds;
    states_ok = sym states ∙ p.states_ok;
    legal_ok = p.legal_ok;
  };
}

-- a suffix less
shorter : (s : Suffix) (c d : Chain) (n m : ℕ) → (suffixes_of c ≡ s ∷ suffixes_of d) → Formed c n →
    in_range (pattern_conditions (arguments_reaching (suffixes_of d) m)) 1 d ≡ true → Formed d m
shorter s c d n m e f r =
    let long : nat_le (suc (length (suffixes_of d))) 8 ≡ true = subst (λ (ss : List Suffix). has_few_suffixes ss ≡ true) e f.few in
    let outer : not (has_array_outside_if (s ∷ suffixes_of d)) ≡ true =
    subst (λ (ss : List Suffix). not (has_array_outside_if ss) ≡ true) e f.order in
    record { few = few_inward (length (suffixes_of d)) long; order = order_inward s (suffixes_of d) outer; range = r }

-- the state that a Merge takes was made by a legal chain
merged : (c : Chain) (t : Ty) → is_state_of c t ≡ true → IsLegalType t → Reaches c (inward (C.Merge c) (t ∷ []))
merged c (C.StateOf d ts) h k =
    let a = both (same_chain c d) (not (is_state_or_merge c)) h in
    let b = both (is_legal d (tys_list ts)) (not (is_state_or_merge d) && all_legal ts) k in
    let e = both (not (is_state_or_merge d)) (all_legal ts) b.1 in
    let same : c ≡ d = chain_exact c d a.0 in
    let legal : is_legal c (tys_list ts) ≡ true = subst (λ (z : Chain). is_legal z (tys_list ts) ≡ true) (sym same) b.0 in
    record {
      args = numbered 1 (tys_list ts);
      types_are = types-numbered 1 (tys_list ts);
      passes = legal_passes c (tys_list ts) (legal, legal-tys_list ts e.1);
    }
merged c (C.Whole n) h k = cc h
merged c (C.Signed w) h k = cc h
merged c C.Str h k = cc h
merged c (C.Arr t) h k = cc h
merged c (C.MapTy j t) h k = cc h
merged c (C.Nullable t) h k = cc h

some_is : (c d : Chain) → (let a : Option Chain = Some c in let b : Option Chain = Some d in a ≡ b) → c ≡ d
some_is c d e = cc e

-- what reaches the link inside one passes there
inside : (c : Chain) (args : List Arg) → Passes c args → (d : Chain) → inner_chain c ≡ Some d → Reaches d (inward c (types args))
inside (C.Of f) args p d e = cc e
inside (C.If c) args p d e =
    let t = or_none (last_is is_condition args) (arg_types c (front args)) p.types_ok in
    let n : length (front args) ≡ length args - 1 = length-front args in
    subst (λ (z : Chain). Reaches z (inward (C.If c) (types args))) (some_is c d e) (record {
      args = front args;
      types_are = types-front args;
      passes = record {
        formed_ok = subst (Formed c) (sym n) (shorter Suffix.If (C.If c) c (length args) (length args - 1) refl p.formed_ok p.formed_ok.range);
        least_ok = omega (arith, p.least_ok, n);
        greatest_ok = omega (arith, p.greatest_ok, n);
        maps_ok = p.maps_ok;
        types_ok = t.1;
        states_ok = p.states_ok;
        legal_ok = each-front IsLegalType args p.legal_ok;
      };
    })
inside (C.Resample start end step c) args p d e =
    let t = or_none (last_is is_number args) (arg_types c (front args)) p.types_ok in
    let n : length (front args) ≡ length args - 1 = length-front args in
    let size : ℕ = intervals start end step in
    let m : ℕ = pattern_conditions (arguments_reaching (suffixes_of c) (length args - 1)) in
    let r = both (is_range 1 start end step) (in_range m (1 * size) c) p.formed_ok.range in
    let some : 1 ≤ 1 * size = omega (arith, some_interval start end step (proper 1 start end step r.0)) in
    subst (λ (z : Chain). Reaches z (inward (C.Resample start end step c) (types args))) (some_is c d e) (record {
      args = front args;
      types_are = types-front args;
      passes = record {
        formed_ok = subst (Formed c) (sym n)
            (shorter Suffix.Resample (C.Resample start end step c) c (length args) (length args - 1) refl p.formed_ok (narrower m 1 (1 * size) c some r.1));
        least_ok = omega (arith, p.least_ok, n);
        greatest_ok = omega (arith, p.greatest_ok, n);
        maps_ok = p.maps_ok;
        types_ok = t.1;
        states_ok = p.states_ok;
        legal_ok = each-front IsLegalType args p.legal_ok;
      };
    })
inside (C.Array c) args p d e =
    let t = or_none (each_is is_array args) (arg_types c (with_parts element args)) p.types_ok in
    let n : length (with_parts element args) ≡ length args = length-within element args in
    subst (λ (z : Chain). Reaches z (inward (C.Array c) (types args))) (some_is c d e) (record {
      args = with_parts element args;
      types_are = types-within element args;
      passes = record {
        formed_ok = subst (Formed c) (sym n) (shorter Suffix.Array (C.Array c) c (length args) (length args) refl p.formed_ok p.formed_ok.range);
        least_ok = omega (arith, p.least_ok, n);
        greatest_ok = omega (arith, p.greatest_ok, n);
        maps_ok = p.maps_ok;
        types_ok = t.1;
        states_ok = p.states_ok;
        legal_ok = each-within IsLegalType element legal-element args p.legal_ok;
      };
    })
inside (C.ForEach c) args p d e =
    let t = or_none (each_is is_array args) (arg_types c (with_parts element args)) p.types_ok in
    let n : length (with_parts element args) ≡ length args = length-within element args in
    subst (λ (z : Chain). Reaches z (inward (C.ForEach c) (types args))) (some_is c d e) (record {
      args = with_parts element args;
      types_are = types-within element args;
      passes = record {
        formed_ok = subst (Formed c) (sym n) (shorter Suffix.ForEach (C.ForEach c) c (length args) (length args) refl p.formed_ok p.formed_ok.range);
        least_ok = omega (arith, p.least_ok, n);
        greatest_ok = omega (arith, p.greatest_ok, n);
        maps_ok = p.maps_ok;
        types_ok = t.1;
        states_ok = p.states_ok;
        legal_ok = each-within IsLegalType element legal-element args p.legal_ok;
      };
    })
inside (C.MapOf c) args p d e =
    let t = or_none (each_is is_map args) (arg_types c (with_parts map_part args)) p.types_ok in
    let n : length (with_parts map_part args) ≡ length args = length-within map_part args in
    let m = or_none (takes_count c 1) (inside_maps c) p.maps_ok in
    let b = in_bounds c 1 m.0 in
    let one : length (with_parts map_part args) ≡ 1 = omega (arith, n, p.least_ok, p.greatest_ok) in
    subst (λ (z : Chain). Reaches z (inward (C.MapOf c) (types args))) (some_is c d e) (record {
      args = with_parts map_part args;
      types_are = types-within map_part args;
      passes = record {
        formed_ok = subst (Formed c) (sym one) (shorter Suffix.MapOf (C.MapOf c) c (length args) 1 refl p.formed_ok p.formed_ok.range);
        least_ok = omega (arith, one, b.0);
        greatest_ok = omega (arith, one, b.1);
        maps_ok = m.1;
        types_ok = t.1;
        states_ok = p.states_ok;
        legal_ok = each-within IsLegalType map_part legal-map_part args p.legal_ok;
      };
    })
inside (C.Distinct c) args p d e =
    let t = or_none (each_is holds_no_state args) (arg_types c args) p.types_ok in
    subst (λ (z : Chain). Reaches z (types args)) (some_is c d e)
    (wrapped (C.Distinct c) c args p (shorter Suffix.Distinct (C.Distinct c) c (length args) (length args) refl p.formed_ok p.formed_ok.range)
    (omega arith) (omega arith) refl t.1 refl)
inside (C.OrNull c) args p d e =
    subst (λ (z : Chain). Reaches z (types args)) (some_is c d e)
    (wrapped (C.OrNull c) c args p (shorter Suffix.OrNull (C.OrNull c) c (length args) (length args) refl p.formed_ok p.formed_ok.range)
    (omega arith) (omega arith) refl p.types_ok refl)
inside (C.OrDefault c) args p d e =
    subst (λ (z : Chain). Reaches z (types args)) (some_is c d e)
    (wrapped (C.OrDefault c) c args p (shorter Suffix.OrDefault (C.OrDefault c) c (length args) (length args) refl p.formed_ok p.formed_ok.range)
    (omega arith) (omega arith) refl p.types_ok refl)
inside (C.State c) args p d e =
    subst (λ (z : Chain). Reaches z (types args)) (some_is c d e)
    (wrapped (C.State c) c args p (shorter Suffix.State (C.State c) c (length args) (length args) refl p.formed_ok p.formed_ok.range)
    (omega arith) (omega arith) refl p.types_ok refl)
inside (C.Merge c) args p d e =
    let s = is_state c args p.least_ok p.greatest_ok p.states_ok in
    let legal : Each IsLegalType (types (s.0 ∷ [])) = subst (λ (z : List Arg). Each IsLegalType (types z)) s.1 p.legal_ok in
    subst (λ (z : Chain). Reaches z (inward (C.Merge c) (types args))) (some_is c d e)
    (subst (λ (z : List Arg). Reaches c (inward (C.Merge c) (types z))) (sym s.1) (merged c s.0.1 s.2 legal.0))

pub inner_is_legal : (c inner : Chain) (ts : List Ty) → inner_chain c ≡ Some inner → IsLegalCall c ts → IsLegalCall inner (inward c ts)
inner_is_legal c inner ts e l =
    let r : Reaches inner (inward c (types (numbered 1 ts))) = inside c (numbered 1 ts) (legal_passes c ts l) inner e in
    let whole : IsLegalCall inner (types r.args) = passes_legal inner r.args r.passes in
    let same : types (numbered 1 ts) ≡ ts = types-numbered 1 ts in
    subst (λ (us : List Ty). IsLegalCall inner (inward c us)) same (subst (IsLegalCall inner) r.types_are whole)

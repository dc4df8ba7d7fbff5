-- What a plan made ready promises of the columns of a batch of its types.
use Rattle.std.proofs.Common.{◌≡◌, ℕ, zero, suc, ◌+◌, ◌-◌, ◌<◌, ◌≤◌, List, [], ◌∷◌, ◌++◌, length, map, take, drop, get_or, refl, ap, ap₂, sym, ◌∙◌, subst, arith}
use Rattle.std.specs.List.{All, slice_range}
use Rattle.std.proofs.lemmas.List.{get_or-drop, length-drop, length-map}
use lib.Seq.{take-suc}
use Rattle.agg_terms.specs.Lists.{Each}
use Rattle.agg_meaning.specs.Feeds.{AreValues}
use Rattle.agg_meaning.specs.Views.{AreContributions, Call, IsLegalView, View, of_row}
use Rattle.agg_defs.specs.Plans.{view_in}
use Rattle.agg_defs.specs.declared.plan.GroupPlan.{GroupPlan}
use Rattle.agg_typing.specs.Views.{IsViewOver}
use Rattle.value_types.specs.declared.ty.Ty.{Ty}
use Rattle.agg_typing.specs.Promises.{LegalIsLawful}
use Rattle.row_laws.proofs.Calls.{contributed}
use Rattle.columns.specs.Rows.{AreLong, AreTyped, rows_upto}
use Rattle.columns.proofs.Rows.{count_rows, row_is}
use Rattle.typed_columns.specs.TypedValues.{TypedValues}
use Rattle.value_types.specs.Folds.{ty_of}
use Rattle.value_types.specs.Images.{TypesAreNarrow}
use Rattle.value_types.specs.declared.ty.Ty.TheVariants as rust
use Rattle.key_methods.specs.Kinds.{AreKeyTypes}
use Rattle.key_columns.specs.Words.{AreKeyColumns}
use Rattle.group_tables.specs.Groupings.{IsReady, view_of}
use Rattle.group_tables.specs.proving.Rows.{rows_between}
use Rattle.group_tables.specs.declared.grouping.Grouping.{Grouping}
use Rattle.group_tables.proofs.Agreeing.{all-below, all-few, each-all, key-columns, key-types, keys-below, rows-fit, rows_in}
use Rattle.group_tables.proofs.TableLaws.{all-narrow, view-legal}

pub kinds : (g : Grouping) → IsReady g → AreKeyTypes g.key_types
kinds g ready = subst AreKeyTypes (sym ready.key_types_are) (key-types g.types g.keys ready.fits.keys)

module _ (g : Grouping) (ready : IsReady g) (columns : List TypedValues) (types-are : map (λ c. c.ty) columns ≡ g.types) where
  pub below : Each (λ k. k < length columns) g.keys
  below = keys-below g.types columns types-are g.keys ready.fits.keys

  pub all-keys : All (λ k. k < length columns) g.keys
  all-keys = each-all (λ k. k < length columns) g.keys below

  pub few : All (λ c. length c.columns ≤ 64) g.calls
  few = each-all (λ c. length c.columns ≤ 64) g.calls (all-few (map ty_of g.types) g.calls ready.fits.calls)

  long : length (map ty_of g.types) ≡ length columns
  long = length-map g.types ty_of ∙ ap length (sym types-are) ∙ length-map columns (λ c. c.ty)

  pub arguments : All (λ c. All (λ a. a < length columns) c.columns) g.calls
  arguments = each-all (λ c. All (λ a. a < length columns) c.columns) g.calls (all-below (map ty_of g.types) g.calls (length columns) long ready.fits.calls)

  pub legal : LegalIsLawful → IsLegalView (view_of g)
  legal law = view-legal law (map ty_of g.types) (view_of g) ready.fits.calls

  module _ (from to : ℕ) (order : from ≤ to) (typed : AreTyped columns) (within : All (λ c. to ≤ length c.values) columns) where
    pub keys-stand : AreKeyColumns g.key_types columns g.keys from to
    keys-stand = subst (λ ts. AreKeyColumns ts columns g.keys from to) (sym ready.key_types_are) (key-columns g.types columns types-are to typed within g.keys from below)

    pub brought : TypesAreNarrow → AreContributions (view_of g) (map (of_row (view_of g)) (rows_in columns from (to - from)))
    brought law =
        contributed (view_of g) (map ty_of g.types) (rows_in columns from (to - from)) ready.fits.calls (all-narrow law g.types)
        (subst (λ ts. Each (AreValues (map ty_of ts)) (rows_in columns from (to - from))) types-are (rows-fit columns from to (to - from) typed within (omega (arith, order))))

-- ---- the rows of a batch between two places
upto : (columns : List TypedValues) (count from n : ℕ) → from + n ≤ count → take n (drop from (rows_upto columns count)) ≡ rows_between columns from n
upto columns count from zero h = refl
upto columns count from (suc n) h =
    let rows = rows_upto columns count in
    let lt : n < length (drop from rows) = omega (arith, h, length-drop from rows, count_rows columns count) in
    take-suc (drop from rows) n [] lt
    ∙ ap₂ (λ l r. l ++ r ∷ []) (upto columns count from n (omega (arith, h))) (get_or-drop from rows n [] ∙ row_is columns count (from + n) (omega (arith, h)))

pub rows-are : (columns : List TypedValues) (count from to : ℕ) → from ≤ to → to ≤ count → slice_range (rows_upto columns count) from to ≡ rows_between columns from (to - from)
rows-are columns count from to order within = upto columns count from (to - from) (omega (arith, order, within))

pub long-enough : (columns : List TypedValues) (count to : ℕ) → AreLong columns count → to ≤ count → All (λ c. to ≤ length c.values) columns
long-enough [] count to l h j d hj = absurd (omega (arith, hj))
long-enough (c ∷ cs) count to l h zero d hj = omega (arith, h, l.0)
long-enough (c ∷ cs) count to l h (suc j) d hj = long-enough cs count to l.1 h j d (omega (arith, hj))

-- ---- a plan made ready
pub same-view : {keys ks : List ℕ} {calls cs : List Call} → keys ≡ ks → calls ≡ cs → ◌≡◌ {A = View} (record { keys = keys; calls = calls }) (record { keys = ks; calls = cs })
same-view e f = λ i. record { keys = e i; calls = f i }

pub made-ready : (g : Grouping) (plan : GroupPlan) (types : List Ty) → g.types ≡ types → view_of g ≡ view_in plan → IsViewOver (map ty_of types) (view_in plan) → (keys : List ℕ) → g.keys ≡ keys →
    g.key_types ≡ map (λ k. get_or types k rust.Str) keys → IsReady g
made-ready g plan types types-are view-is fits keys keys-are key-types-are = record {
  fits = subst (λ ts. IsViewOver (map ty_of ts) (view_of g)) (sym types-are) (subst (IsViewOver (map ty_of types)) (sym view-is) fits);
  key_types_are = key-types-are ∙ ap₂ (λ ts ks. map (λ k. get_or ts k rust.Str) ks) (sym types-are) (sym keys-are);
}

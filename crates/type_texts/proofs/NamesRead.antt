-- The name of a chain under one suffix more, and that names read back.
use Rattle.std.proofs.Common.{◌≡◌, ℕ, ℤ, ◌≤◌, List, [], ◌∷◌, ◌++◌, length, Result, Ok, Err, refl, sym, subst, ap, ◌∙◌, append_assoc, append-nil, arith}
use Rattle.std.specs.Prelude.{OnOk}
use Rattle.agg_terms.specs.declared.words.Suffix.{Suffix}
use Rattle.agg_terms.specs.declared.words.LeafName.{LeafName}
use Rattle.agg_terms.specs.Chains.{Chain}
use Rattle.value_types.specs.declared.chain.Chain.{Chain as Code}
use Rattle.agg_terms.specs.Chains as terms
use Rattle.value_types.specs.declared.chain.Chain.TheVariants as code
use Rattle.value_types.specs.declared.chain.Chain.TheOpen.{Chain-F}
use Rattle.value_types.specs.declared.chain.Chain.TheFolds.{fold-roll-Chain}
use Rattle.value_types.specs.Folds.{chain_of, chain_step}
use Rattle.agg_typing.specs.Names.{Shape, function_text, suffix_text, suffixes_text, spelled}
use Rattle.agg_typing.proofs.Reading.{read-spelled}
use Rattle.type_names.specs.declared.chain_name.NameShape.{NameShape}
use Rattle.type_names.specs.declared.chain_name.NameFault.{NameFault}
use Rattle.type_names.specs.Reads.{IsReadAs, shape_of}
use Rattle.agg_typing.specs.Legal.{function_of}
use Rattle.type_texts.specs.ChainNames.{leaf_name, written_suffixes, chain_name}
use Rattle.type_texts.specs.ReadsBack.{shape_in, IsShapeUnlessMemory, NameReadsBack}

suffixes_text-snoc : (ss : List Suffix) (s : Suffix) → suffixes_text (ss ++ s ∷ []) ≡ suffixes_text ss ++ suffix_text s
suffixes_text-snoc [] s = append-nil (suffix_text s)
suffixes_text-snoc (z ∷ zs) s = ap (λ t. suffix_text z ++ t) (suffixes_text-snoc zs s) ∙ sym (append_assoc (suffix_text z) (suffixes_text zs) (suffix_text s))

spelled-snoc : (f : LeafName) (ss : List Suffix) (s : Suffix) → spelled f (ss ++ s ∷ []) ≡ spelled f ss ++ suffix_text s
spelled-snoc f ss s = ap (λ t. function_text f ++ t) (suffixes_text-snoc ss s) ∙ sym (append_assoc (function_text f) (suffixes_text ss) (suffix_text s))

-- the whole chain is the inner one under this suffix
pub record IsUnder (whole inner : Chain) (s : Suffix) : Type 0 where
  pub function : function_of whole ≡ function_of inner
  pub suffixes : written_suffixes whole ≡ written_suffixes inner ++ s ∷ []

-- a chain of the code under a suffix is that suffix's chain
plain_under : (whole inner : Chain) (s : Suffix) (f : Chain → Chain) → whole ≡ f inner → IsUnder (f inner) inner s → IsUnder whole inner s
plain_under whole inner s f e under = subst (λ x. IsUnder x inner s) (sym e) under

pub under_if : (c : Code) → IsUnder (chain_of (code.If c)) (chain_of c) Suffix.If
under_if c = let e : chain_of (code.If c) ≡ terms.If (chain_of c) = ap chain_of (sym (code.rolls-If c)) ∙ fold-roll-Chain Chain chain_step (Chain-F.If c) in plain_under _ _ Suffix.If terms.If e (record { function = refl; suffixes = refl })

pub under_array : (c : Code) → IsUnder (chain_of (code.Array c)) (chain_of c) Suffix.Array
under_array c = let e : chain_of (code.Array c) ≡ terms.Array (chain_of c) = ap chain_of (sym (code.rolls-Array c)) ∙ fold-roll-Chain Chain chain_step (Chain-F.Array c) in plain_under _ _ Suffix.Array terms.Array e (record { function = refl; suffixes = refl })

pub under_map : (c : Code) → IsUnder (chain_of (code.MapOf c)) (chain_of c) Suffix.MapOf
under_map c = let e : chain_of (code.MapOf c) ≡ terms.MapOf (chain_of c) = ap chain_of (sym (code.rolls-MapOf c)) ∙ fold-roll-Chain Chain chain_step (Chain-F.MapOf c) in plain_under _ _ Suffix.MapOf terms.MapOf e (record { function = refl; suffixes = refl })

pub under_for_each : (c : Code) → IsUnder (chain_of (code.ForEach c)) (chain_of c) Suffix.ForEach
under_for_each c = let e : chain_of (code.ForEach c) ≡ terms.ForEach (chain_of c) = ap chain_of (sym (code.rolls-ForEach c)) ∙ fold-roll-Chain Chain chain_step (Chain-F.ForEach c) in plain_under _ _ Suffix.ForEach terms.ForEach e (record { function = refl; suffixes = refl })

pub under_or_null : (c : Code) → IsUnder (chain_of (code.OrNull c)) (chain_of c) Suffix.OrNull
under_or_null c = let e : chain_of (code.OrNull c) ≡ terms.OrNull (chain_of c) = ap chain_of (sym (code.rolls-OrNull c)) ∙ fold-roll-Chain Chain chain_step (Chain-F.OrNull c) in plain_under _ _ Suffix.OrNull terms.OrNull e (record { function = refl; suffixes = refl })

pub under_or_default : (c : Code) → IsUnder (chain_of (code.OrDefault c)) (chain_of c) Suffix.OrDefault
under_or_default c = let e : chain_of (code.OrDefault c) ≡ terms.OrDefault (chain_of c) = ap chain_of (sym (code.rolls-OrDefault c)) ∙ fold-roll-Chain Chain chain_step (Chain-F.OrDefault c) in plain_under _ _ Suffix.OrDefault terms.OrDefault e (record { function = refl; suffixes = refl })

pub under_distinct : (c : Code) → IsUnder (chain_of (code.Distinct c)) (chain_of c) Suffix.Distinct
under_distinct c = let e : chain_of (code.Distinct c) ≡ terms.Distinct (chain_of c) = ap chain_of (sym (code.rolls-Distinct c)) ∙ fold-roll-Chain Chain chain_step (Chain-F.Distinct c) in plain_under _ _ Suffix.Distinct terms.Distinct e (record { function = refl; suffixes = refl })

pub under_state : (c : Code) → IsUnder (chain_of (code.State c)) (chain_of c) Suffix.State
under_state c = let e : chain_of (code.State c) ≡ terms.State (chain_of c) = ap chain_of (sym (code.rolls-State c)) ∙ fold-roll-Chain Chain chain_step (Chain-F.State c) in plain_under _ _ Suffix.State terms.State e (record { function = refl; suffixes = refl })

pub under_merge : (c : Code) → IsUnder (chain_of (code.Merge c)) (chain_of c) Suffix.Merge
under_merge c = let e : chain_of (code.Merge c) ≡ terms.Merge (chain_of c) = ap chain_of (sym (code.rolls-Merge c)) ∙ fold-roll-Chain Chain chain_step (Chain-F.Merge c) in plain_under _ _ Suffix.Merge terms.Merge e (record { function = refl; suffixes = refl })

pub under_resample : (start end : ℤ) (step : ℕ) (c : Code) → IsUnder (chain_of (code.Resample start end step c)) (chain_of c) Suffix.Resample
under_resample start end step c = let e : chain_of (code.Resample start end step c) ≡ terms.Resample start end step (chain_of c) = ap chain_of (sym (code.rolls-Resample start end step c)) ∙ fold-roll-Chain Chain chain_step (Chain-F.Resample start end step c) in plain_under _ _ Suffix.Resample (terms.Resample start end step) e (record { function = refl; suffixes = refl })

-- the same, as the code sees the chains
pub under_of : (chain built got inner : Code) (s t : Suffix) → chain ≡ built → got ≡ inner → s ≡ t → IsUnder (chain_of built) (chain_of inner) t → IsUnder (chain_of chain) (chain_of got) s
under_of chain built got inner s t e f g under = subst (λ x. IsUnder (chain_of x) (chain_of got) s) (sym e) (subst (λ x. IsUnder (chain_of built) (chain_of x) s) (sym f) (subst (IsUnder (chain_of built) (chain_of inner)) (sym g) under))

pub written : {E : Type 0} (before between after name : List ℕ) (r : Result (Unit {0}) E) (whole inner : Chain) (s : Suffix) → IsUnder whole inner s → between ≡ before ++ chain_name inner → name ≡ suffix_text s
    → OnOk r (after ≡ between ++ name) → OnOk r (after ≡ before ++ chain_name whole)
written before between after name (Ok u) whole inner s under first named second =
    let whole_name : chain_name whole ≡ chain_name inner ++ suffix_text s = ap (λ f. spelled (leaf_name f) (written_suffixes whole)) under.function ∙ ap (spelled (leaf_name (function_of inner))) under.suffixes ∙ spelled-snoc (leaf_name (function_of inner)) (written_suffixes inner) s in
    second ∙ ap (λ t. t ++ name) first ∙ append_assoc before (chain_name inner) name ∙ ap (λ t. before ++ (chain_name inner ++ t)) named ∙ ap (λ t. before ++ t) (sym whole_name)
written before between after name (Err e) whole inner s under first named second = tt

ok_is : (a b : Shape) → (let r : Result Shape ℕ = Ok a in r) ≡ Ok b → b ≡ a
ok_is a b e = cc

by_reading : (shape : Shape) (answer : Result NameShape NameFault) → length shape.suffixes ≤ 8 → IsReadAs (Ok shape) answer → IsShapeUnlessMemory shape answer
by_reading shape (Ok name) few read = ok_is shape (shape_of name) read.0
by_reading shape (Err (NameFault.Unknown at)) few read = absurd cc
by_reading shape (Err NameFault.TooManySuffixes) few read = absurd (omega arith)
by_reading shape (Err NameFault.OutOfMemory) few read = refl

pub name_reads_back : NameReadsBack
name_reads_back c answer few read = by_reading (shape_in c) answer few (subst (λ r. IsReadAs r answer) (read-spelled (leaf_name (function_of c)) (written_suffixes c)) read)

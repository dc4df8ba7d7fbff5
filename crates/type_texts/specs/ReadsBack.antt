-- What is printed reads back.
use Rattle.std.specs.Prelude.{◌≡◌, ◌≤◌, length, Result, Ok, Err}
use Rattle.agg_terms.specs.Chains.{Chain}
use Rattle.agg_typing.specs.Names.{Shape, read_name}
use Rattle.agg_typing.specs.Legal.{function_of}
use Rattle.type_names.specs.declared.chain_name.NameShape.{NameShape}
use Rattle.type_names.specs.declared.chain_name.NameFault.{NameFault}
use Rattle.type_names.specs.Reads.{IsReadAs, shape_of}
use Rattle.type_texts.specs.ChainNames.{leaf_name, written_suffixes, chain_name}

-- The function and the suffixes of a chain.
abbrev pub shape_in : Chain → Shape
shape_in c = record { leaf = leaf_name (function_of c); suffixes = written_suffixes c }

-- The answer is this shape, unless memory ran out.
abbrev pub IsShapeUnlessMemory : Shape → Result NameShape NameFault → Type 0
IsShapeUnlessMemory shape (Ok name) = shape_of name ≡ shape
IsShapeUnlessMemory shape (Err fault) = fault ≡ NameFault.OutOfMemory

-- Whoever answers right to the printed name of a chain of at most eight suffixes answers its function and its suffixes.
abbrev pub NameReadsBack : Type 0
NameReadsBack = (c : Chain) (answer : Result NameShape NameFault) → length (written_suffixes c) ≤ 8 → IsReadAs (read_name (chain_name c)) answer → IsShapeUnlessMemory (shape_in c) answer

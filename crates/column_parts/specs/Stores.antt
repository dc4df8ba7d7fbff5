-- What each store of numbers is.
use Rattle.std.specs.Prelude.{pos, map}
use Rattle.column_parts.specs.NumberLists.{NumberList}
use Rattle.column_parts.specs.declared.numbers.Store.{Store}
use Rattle.column_parts.specs.declared.numbers.Store.TheVariants as store
use Rattle.column_parts.specs.declared.number_type.NumberType.TheVariants as kind

-- the numbers of a store, with their type
abbrev pub stored : Store → NumberList
stored (store.U8 items) = record { kind = kind.U8; numbers = map pos items.items }
stored (store.U16 items) = record { kind = kind.U16; numbers = map pos items.items }
stored (store.U32 items) = record { kind = kind.U32; numbers = map pos items.items }
stored (store.U64 items) = record { kind = kind.U64; numbers = map pos items.items }
stored (store.I8 items) = record { kind = kind.I8; numbers = items.items }
stored (store.I16 items) = record { kind = kind.I16; numbers = items.items }
stored (store.I32 items) = record { kind = kind.I32; numbers = items.items }
stored (store.I64 items) = record { kind = kind.I64; numbers = items.items }

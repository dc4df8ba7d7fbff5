-- Patterns that are searched for: 1 to 64 items, and a link between each two.
use Rattle.std.specs.Prelude.{◌≡◌, ◌+◌, ◌≤◌, length}
use Rattle.value_types.specs.declared.pattern.Pattern.{Pattern}

pub record IsSearched (p : Pattern) : Type 0 where
  pub some : 1 ≤ length p.items
  pub most : length p.items ≤ 64
  pub links : length p.links + 1 ≡ length p.items

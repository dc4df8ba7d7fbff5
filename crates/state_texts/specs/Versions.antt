-- The versions of state texts. A later version has a byte and a table of its own beside these.
use Rattle.std.specs.Prelude.{ℕ, ◌==◌, if◌then◌else◌, Option, Some, None}
use Rattle.state_texts.specs.declared.version.Version.{Version}
use Rattle.state_texts.specs.declared.version.Version.TheVariants.{One}

-- the byte that a text of the version begins with
abbrev pub version_byte : Version → ℕ
version_byte One = 1

-- the version whose texts begin with the byte
abbrev pub version_of : ℕ → Option Version
version_of b = if b == 1 then Some One else None

-- the version that is written
abbrev pub written : Version
written = One

use Rattle.std.proofs.Common.{◌≡◌, codes, Ok, Err, refl}
use Rattle.field_texts.specs.Syntax.{number, string, nullable, array, map_of}
use Rattle.field_texts.specs.Machine.{judge}

row : judge (array number) (codes "[1, 2") ≡ Err 5
row = refl

two : judge (array (nullable string)) (codes "['a\\'b',NULL] ") ≡ Ok tt
two = refl

three : judge (map_of string (array number)) (codes "{'a' : [1, -2 ,+03],'b':[ ]}") ≡ Ok tt
three = refl

four : judge (array number) (codes "[1 2]") ≡ Err 3
four = refl

five : judge (array string) (codes "['a\\x4g']") ≡ Err 6
five = refl

-- A choice by a test, and what a test that passed or failed says of its parts.
use Rattle.std.specs.Prelude.{Bool, true, false}

-- the first if the test holds, else the second
unfoldable pub pick : {A : Type 0} → Bool → A → A → A
pick true a b = a
pick false a b = b

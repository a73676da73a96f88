-- Laws of what specs/Examples.antt defines.
use mathlib.Core.List.{[], ◌∷◌, map}
use mathlib.Core.Path.{◌≡◌, refl}
use lib.ListN.{length, replicate}
use Rattle.laws.specs.Choice.{pick}
use Rattle.house.specs.declared.Order.TheVariants.{Post, Stand, Retry, Cut, Carry}
use Rattle.lines.specs.Parts.{same, every, in_front, parts}
use Rattle.lines.specs.Numeral.{is_number, value_of}
use Rattle.lines.specs.declared.Typed.TheVariants.{Districts, Job, Given, Unreadable}
use Rattle.lines.specs.Orders.{one_number, order_of_words, order_of_line, orders_of}
use Rattle.lines.specs.Examples.{readable, unreadable}

pub readable_lines :
    map order_of_line readable ≡ Districts 5 ∷ Job 3
    ∷ map Given (Post 0 ∷ Post 7 ∷ Stand 11 ∷ Cut 2 ∷ Carry 17 ∷ Retry 3 12 ∷ Retry 999999999 1 ∷ [])
unfolding one_number order_of_words order_of_line same every in_front parts is_number value_of pick
readable_lines = refl

pub unreadable_lines : map order_of_line unreadable ≡ replicate (length unreadable) Unreadable
unfolding one_number order_of_words order_of_line same every in_front parts is_number value_of pick
unreadable_lines = refl

-- `districts 1`, `job 1`, an empty line, `stand 0`, and `post 0` without LF
pub whole_input :
    orders_of
    (100
    ∷
    105
    ∷
    115
    ∷
    116
    ∷
    114
    ∷
    105
    ∷
    99
    ∷
    116
    ∷
    115
    ∷
    32
    ∷
    49
    ∷
    10
    ∷
    106
    ∷
    111
    ∷
    98
    ∷
    32
    ∷
    49
    ∷
    10
    ∷
    10
    ∷
    115
    ∷
    116
    ∷
    97
    ∷
    110
    ∷
    100
    ∷
    32
    ∷
    48
    ∷
    10
    ∷
    112
    ∷
    111
    ∷
    115
    ∷
    116
    ∷
    32
    ∷
    48
    ∷
    [])
    ≡ Districts 1 ∷ Job 1 ∷ Unreadable ∷ Given (Stand 0) ∷ Given (Post 0) ∷ []
unfolding orders_of one_number order_of_words order_of_line same every in_front parts is_number value_of pick
whole_input = refl

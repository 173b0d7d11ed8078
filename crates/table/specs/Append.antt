-- A row joins the list of used rows and the index. Assumes nothing.
use Rattle.std.specs.Prelude.{ℕ, ◌+◌}
use Rattle.layout.specs.Places.{USED, NEXT}
use Rattle.layout.specs.View.{View, put_cell, put_header, put_list, put_head}
use Rattle.rows.specs.Used.{used}
use Rattle.rows.specs.Index.{key_of, live}

-- row i takes the next place of the list, and becomes the first of its chain
abbrev pub appended : View → ℕ → View
appended W i =
    put_header
    (put_head (put_list (put_cell (put_cell W i NEXT (live (used W) (W.head (key_of W i)))) i 4 (W.header USED)) (W.header USED) i)
    (key_of W i) (i + 1)) 3 (W.header 3 + 1)

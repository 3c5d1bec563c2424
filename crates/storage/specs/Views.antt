-- What a view holds. Assumes nothing.
use Rattle.std.specs.Prelude.{List, ◌++◌}
use Rattle.storage.specs.declared.view.View.{View}

-- the events still to draw, oldest first
abbrev pub unread : {E : Type 0} → View E → List E
unread v = v.first.now ++ v.second.now

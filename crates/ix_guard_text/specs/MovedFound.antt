-- What the rules of the grammar find, with its places moved: the heights stay.
use Rattle.std.specs.Prelude.{map}
use Rattle.ix_tree.specs.declared.annot.BaseTree.{BaseTree}
use Rattle.ix_grammar.specs.declared.classes.Behind.{Behind}
use Rattle.ix_grammar.specs.declared.classes.Body.{Body}
use Rattle.ix_grammar.specs.declared.classes.Classes.{Classes}
use Rattle.ix_grammar.specs.declared.classes.FoundClass.{FoundClass}
use Rattle.ix_grammar.specs.declared.classes.FoundUnit.{FoundUnit}
use Rattle.ix_grammar.specs.declared.classes.Members.{Members}
use Rattle.ix_grammar.specs.declared.classes.Stmts.{Stmts}
use Rattle.ix_grammar.specs.declared.declarations.FoundDecl.{FoundDecl}
use Rattle.ix_grammar.specs.declared.declarations.FoundMods.{FoundMods}
use Rattle.ix_grammar.specs.declared.declarations.Params.{Params}
use Rattle.ix_grammar.specs.declared.declarations.Shared.{Shared}
use Rattle.ix_grammar.specs.declared.found.Args.{Args}
use Rattle.ix_grammar.specs.declared.found.At.{At}
use Rattle.ix_grammar.specs.declared.found.Found.{Found}
use Rattle.ix_grammar.specs.declared.found.FoundDecls.{FoundDecls}
use Rattle.ix_grammar.specs.declared.found.FoundInit.{FoundInit}
use Rattle.ix_grammar.specs.declared.found.FoundItems.{FoundItems}
use Rattle.ix_grammar.specs.declared.found.FoundStmt.{FoundStmt}
use Rattle.ix_grammar.specs.declared.found.FoundType.{FoundType}
use Rattle.ix_grammar.specs.declared.found.Notes.{Notes}
use Rattle.ix_grammar.specs.declared.found.Several.{Several}
use Rattle.ix_guard_text.specs.Bare.{bare_maybe as maybe}
use Rattle.ix_guard_text.specs.Moved.{Move, moved_span, moved_annot, moved_base, moved_type, moved_mods, moved_expr, moved_init, moved_decl, moved_stmt, moved_member, moved_class, moved_source}

module _ (move : Move) where
  -- a value that has no places in it
  abbrev pub moved_at : {V : Type 0} → At V → At V
  moved_at found = record { value = found.value; span = moved_span move found.span }

  abbrev pub moved_found_base : At BaseTree → At BaseTree
  moved_found_base found = record { value = moved_base move found.value; span = moved_span move found.span }

  abbrev pub moved_notes : Notes → Notes
  moved_notes found = record { annots = map (moved_annot move) found.annots; height = found.height }

  abbrev pub moved_found_type : FoundType → FoundType
  moved_found_type found = record { ty = moved_type move found.ty; height = found.height }

  abbrev pub moved_found : Found → Found
  moved_found found = record { expr = moved_expr move found.expr; form = found.form; height = found.height; outer = moved_span move found.outer }

  abbrev pub moved_several : Several → Several
  moved_several found = record { items = map (moved_expr move) found.items; height = found.height }

  abbrev pub moved_args : Args → Args
  moved_args found = record { items = map (moved_expr move) found.items; height = found.height; end = moved_span move found.end }

  abbrev pub moved_found_init : FoundInit → FoundInit
  moved_found_init found = record { init = moved_init move found.init; height = found.height; end = moved_span move found.end }

  abbrev pub moved_items : FoundItems → FoundItems
  moved_items found = record { items = map (moved_init move) found.items; height = found.height; end = moved_span move found.end }

  abbrev pub moved_found_mods : FoundMods → FoundMods
  moved_found_mods found = record { mods = moved_mods move found.mods; height = found.height; first = maybe (moved_span move) found.first }

  abbrev pub moved_shared : Shared → Shared
  moved_shared found = record { mods = moved_mods move found.mods; ty = moved_type move found.ty; height = found.height }

  abbrev pub moved_found_decl : FoundDecl → FoundDecl
  moved_found_decl found = record { decl = moved_decl move found.decl; height = found.height; end = moved_span move found.end }

  abbrev pub moved_decls : FoundDecls → FoundDecls
  moved_decls found = record { decls = map (moved_decl move) found.decls; height = found.height; end = moved_span move found.end }

  abbrev pub moved_params : Params → Params
  moved_params found = record { params = map (moved_decl move) found.params; height = found.height }

  abbrev pub moved_found_stmt : FoundStmt → FoundStmt
  moved_found_stmt found = record { stmt = moved_stmt move found.stmt; height = found.height }

  abbrev pub moved_stmts : Stmts → Stmts
  moved_stmts found = record { stmts = map (moved_stmt move) found.stmts; height = found.height }

  abbrev pub moved_body : Body → Body
  moved_body found = record { parent_args = maybe (map (moved_expr move)) found.parent_args; stmts = map (moved_stmt move) found.stmts; height = found.height; end = moved_span move found.end }

  abbrev pub moved_behind : Behind → Behind
  moved_behind found = record { params = moved_params found.params; body = moved_body found.body }

  abbrev pub moved_members : Members → Members
  moved_members found = record { members = map (moved_member move) found.members; height = found.height }

  abbrev pub moved_found_class : FoundClass → FoundClass
  moved_found_class found = record { class = moved_class move found.class; height = found.height }

  abbrev pub moved_classes : Classes → Classes
  moved_classes found = record { classes = map (moved_class move) found.classes; height = found.height }

  abbrev pub moved_unit : FoundUnit → FoundUnit
  moved_unit found = record { unit = moved_source move found.unit; height = found.height }

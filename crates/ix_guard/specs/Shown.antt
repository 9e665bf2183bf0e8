-- What a site, an access and the like of the code are as those of the definitions.
use Rattle.std.specs.Prelude.{map}
use Rattle.ix_symbols.specs.Numbered.{shown}
use Rattle.ix_guard.specs.declared.parts.Access.{Access as Found}
use Rattle.ix_guard.specs.declared.site.Site.{Site as Known}
use Rattle.ix_guard.specs.declared.test.Changes.{Changes as Changing}
use Rattle.ix_guard.specs.declared.parts.Parts.{Parts as Collected}
use Rattle.ix_guard.specs.Accesses.{Access, Parts}
use Rattle.ix_guard.specs.Tests.{Site, Changes}

abbrev pub seen : Found → Access
seen access = record { array = access.array.now; index = access.index.now }

abbrev pub site_of : Known → Site
site_of site = record { names = shown site.table.now; errors = site.errors.now }

abbrev pub changes_of : Changing → Changes
changes_of changes = record { assigned = changes.assigned.now; declared = changes.declared.now }

abbrev pub parts_seen : Collected → Parts
parts_seen parts = record { accesses = map seen parts.accesses.items; assigned = parts.assigned.items }

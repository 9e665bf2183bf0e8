-- What bytes derive, up to places.
pub mod Derived
-- The insertions of a guarded text.
pub mod Inserted
-- Where the tokens of a text stand once texts are inserted between them, and where the parts of a source stand in its guarded text.
pub mod Interleaved
pub mod GuardedPlaces
-- A test, with a place for each of its parts.
pub mod TestParts
pub mod GuardedNames
-- Notes with others between them that stand at new places.
pub mod WithNew
-- Notes whose places are moved, and moves of places that keep places apart.
pub mod MovedNotes
pub mod MovedScopes
-- Notes without their places, and what tables of names say of their places.
pub mod Alike
pub mod Gathered
pub mod Same
pub mod Joint
-- Texts that are inserted between the tokens of a text.
pub mod Woven
pub mod Names
-- Trees without their places, and tokens at other places.
pub mod Bare
pub mod Respanned
-- Trees and tokens whose places are moved, and what the rules of the grammar find with its places moved.
pub mod Moved
pub mod MovedFound
-- The guarded text of bytes.
pub mod Guarding

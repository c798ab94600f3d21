mod HeldObjects
mod NotesHanded
mod SameNumbers

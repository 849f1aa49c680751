pub mod BioLists

pub mod Tokens
mod SameLemmas

mod Shares
mod Rows

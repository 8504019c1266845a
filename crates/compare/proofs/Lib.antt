mod Histories
mod Made
